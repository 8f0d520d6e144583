-- `lists::search_all` meets its contract: each test is a factor 0 or 1.
use Rattle.lists.proofs.Kit.{refl, Bool, true, false, inl, inr, ℕ, arith, ltb, get_or, bool_byte, le-leb, lt-leb, ltb-true, ltb-false}
use Rattle.std.proofs.Common.{◌≡◌, ◌⊎◌, ◌*◌, ◌≤◌}
use Rattle.lists.specs.First.{first_over_lem}
use Rattle.lists.proofs.{First.looking-none, First.looking-more, First.looking-all}
use Rattle.lists.proofs.search_all.Invariants.{over}
use Rattle.lists.proofs.search_all.Goals as goal
use Rattle.lists.proofs.search_all.Goals.{In-loop-x}

test : (q x : ℕ) (b : Bool) → ltb x q ≡ b → ((over q x ≡ false) × (bool_byte b ≡ 1)) ⊎ ((over q x ≡ true) × (bool_byte b ≡ 0))
test q x true e = inl (lt-leb q x (ltb-true x q e), refl)
test q x false e = inr (le-leb q x (ltb-false x q e), refl)

part : (n : ℕ) (b : Bool) → n * bool_byte b ≤ n
part n true = omega arith
part n false = omega arith

pub returns : goal.returns
unfolding first_over_lem
returns c =
    let l = c.loop-x in
    looking-all (over c.args.q) _ 0 l.x-index l.passed l.still l.invariant.0 c.loop-x-test.false

-- the product of `still` with the test of entry i, at most `still`
kept : (c : In-loop-x) → let l = c.loop-x in let a = c.args in
    l.still * bool_byte (ltb (get_or a.xs.now l.x-index 0) a.q) ≤ l.still
kept c =
    let l = c.loop-x in
    let a = c.args in
    part l.still (ltb (get_or a.xs.now l.x-index 0) a.q)

pub loop-x-preserved : goal.loop-x-preserved
loop-x-preserved c =
    let l = c.loop-x in
    let a = c.args in
    let x = get_or a.xs.now l.x-index 0 in (
      looking-more (over a.q) _ 0 l.x-index l.passed l.still (bool_byte (ltb x a.q)) l.invariant.0 (omega arith) (test a.q x (ltb x a.q) refl),
      omega (arith, kept (goal.at.loop-x-preserved c).In-loop-x, l.invariant.1),
    )

pub loop-x-init : goal.loop-x-init
loop-x-init c = (looking-none (over c.args.q) _ 0, omega arith)

pub overflow_mul-still : goal.overflow_mul-still
overflow_mul-still c = record { fits = omega (arith, kept (goal.at.overflow_mul-still c).In-loop-x) }

pub overflow_add-passed : goal.overflow_add-passed
overflow_add-passed c = record { fits = omega (arith, kept (goal.at.overflow_add-passed c).In-loop-x, c.loop-x.invariant.0.few) }
