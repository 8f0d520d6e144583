-- `polynomial::subtract` meets its contract.
use Rattle.lists.proofs.Kit.{◌∙◌, ap₂, ℕ, ◌+◌, arith, pos, ◌-ℤ◌}
use Rattle.numbers.specs.Residue.{residue}
use Rattle.lists.specs.{Entries.nums}
use Rattle.lists.proofs.Stored.{store-next}
use Rattle.polynomial.proofs.subtract.Goals as goal

pub loop-i-preserved : goal.loop-i-preserved
unfolding nums
loop-i-preserved c = let o = c.loop-i.invariant in
    store-next o (omega arith)
    (c.minus.ensures
    ∙ ap₂ (λ (u v : ℕ). residue c.args.q (pos u -ℤ pos v)) (o.below (c.args.x + c.loop-i.i) (omega arith)) (o.below (c.args.y + c.loop-i.i) (omega arith)))
