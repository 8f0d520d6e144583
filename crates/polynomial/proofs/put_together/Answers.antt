-- `polynomial::put_together` meets its contract.
use Rattle.lists.proofs.Kit.{◌≡◌, ◌∙◌, sym, ap₂, subst, ◌+◌, ◌^◌, ◌≤◌, arith, get_or, ℤ, pos, nat_abs, ◌+ℤ◌, ◌*ℤ◌, w64, to_z, of_z, to_z-of_z}
use Rattle.lists.specs.{Entries.ints}
use Rattle.lists.proofs.Stored.{store-front, front-not-yet}
use Rattle.polynomial.proofs.put_together.Goals as goal
use Rattle.polynomial.proofs.put_together.Goals.{After-together-arg-in-loop-k-1}

-- the two sums are as they were
old : (c : After-together-arg-in-loop-k-1)
    → (to_z w64 (of_z w64 (get_or c.loop-k.o c.loop-k.k (pos 0))) ≡ ints c.args.o.now c.loop-k.k)
    × (to_z w64 (of_z w64 (get_or c.loop-k.o (c.args.n + c.loop-k.k) (pos 0))) ≡ ints c.args.o.now (c.args.n + c.loop-k.k))
unfolding ints
old c = (
  to_z-of_z {w = w64} {z = get_or c.loop-k.o c.loop-k.k (pos 0)} (record { sfits = c.together-arg-1.given }) ∙ front-not-yet c.loop-k.invariant,
  to_z-of_z {w = w64} {z = get_or c.loop-k.o (c.args.n + c.loop-k.k) (pos 0)} (record { sfits = c.together-arg-in-loop-k-1.given }) ∙ c.loop-k.invariant.above _ (omega arith),
)

pub together-requires : goal.together-requires
together-requires c = (
  subst (λ (z : ℤ). nat_abs z ≤ 2 ^ 31) (sym (old (goal.at.together-requires c).After-together-arg-in-loop-k-1).0) (c.requires.1 c.loop-k.k (omega arith)),
  subst (λ (z : ℤ). nat_abs z ≤ 2 ^ 31) (sym (old (goal.at.together-requires c).After-together-arg-in-loop-k-1).1) (c.requires.1 (c.args.n + c.loop-k.k) (omega arith)),
)

pub loop-k-preserved : goal.loop-k-preserved
loop-k-preserved c = let o = c.loop-k.invariant in
    store-front o (omega arith)
    (to_z-of_z {w = w64} (record { sfits = c.together.type_inv }) ∙ c.together.ensures
    ∙ ap₂ (λ (x y : ℤ). x *ℤ pos 65536 +ℤ y) (old (goal.at.loop-k-preserved c).After-together-arg-in-loop-k-1).0 (old (goal.at.loop-k-preserved c).After-together-arg-in-loop-k-1).1)
