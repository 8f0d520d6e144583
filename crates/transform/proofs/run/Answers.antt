-- `transform::run` meets its contract: each turn makes one more entry of each half.
use Rattle.lists.proofs.Kit.{◌≡◌, refl, ◌∙◌, ℕ, ◌+◌, ◌*◌, ◌/◌, ◌≤◌, arith, get_or, get_or-replicate}
use Rattle.transform.specs.Level.{factor}
use Rattle.transform.proofs.{Joins.exponent-≤, Joins.run_more}
use Rattle.transform.proofs.run.Goals as goal
use Rattle.transform.proofs.run.Goals.{Start}

-- the power that is read
abbrev exponent : Start → ℕ
exponent c = c.args.h * (c.args.a + 2 * (c.args.k / c.args.h))

below : (c : Start) → exponent c ≤ 1536
below c = exponent-≤ c.args.a c.args.h c.args.k (omega arith) (omega arith) (omega arith)

pub join-requires : goal.join-requires
join-requires c =
    let e : 65536 * get_or c.args.t.now.powers (exponent (goal.at.join-requires c).Start) 0 / 12289 ≡ factor (get_or c.args.t.now.powers (exponent (goal.at.join-requires c).Start) 0) = unfold factor in refl in
    (get_or-replicate 16 c.loop-j.j _ 0 (omega arith) ∙ e, omega arith, omega arith)

pub loop-j-preserved : goal.loop-j-preserved
loop-j-preserved c =
    let l = c.loop-j in
    run_more _ _ _ c.args.a c.args.h c.args.k l.j _ (omega arith) (omega arith) l.invariant
    (c.args.t.now.rule.power (exponent (goal.at.loop-j-preserved c).Start) (omega (arith, below (goal.at.loop-j-preserved c).Start)))
    c.join.ensures
