-- `polynomial::lay_halves` meets its contract.
use Rattle.lists.proofs.Kit.{◌∙◌, ap, arith, w16, to_z-of_z}
use Rattle.polynomial.specs.Steps.{upper, lower}
use Rattle.polynomial.proofs.{Level.halving-next}
use Rattle.polynomial.proofs.lay_halves.Goals as goal

pub loop-i-preserved : goal.loop-i-preserved
loop-i-preserved c = let y = c.lifted-y.ensures in
    halving-next c.loop-i.invariant (omega arith) c.requires.n_in_bounds.1
    (to_z-of_z {w = w16} (record { sfits = c.high_half.type_inv }) ∙ c.high_half.ensures ∙ ap upper y)
    (to_z-of_z {w = w16} (record { sfits = c.low_half.type_inv }) ∙ c.low_half.ensures ∙ ap lower y)
