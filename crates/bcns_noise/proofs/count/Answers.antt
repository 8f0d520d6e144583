-- `bcns_noise::count` meets its contract.
use Rattle.lists.proofs.Kit.{refl, arith}
use Rattle.bcns_noise.specs.Limbs.{tally}
use Rattle.bcns_noise.proofs.{Limbs.tally-next}
use Rattle.bcns_noise.proofs.count.Goals as goal

pub loop-k-init : goal.loop-k-init
unfolding tally
loop-k-init c = (refl, omega arith)

pub loop-k-preserved : goal.loop-k-preserved
loop-k-preserved c =
    (tally-next _ c.loop-k.k c.loop-k.invariant.0 c.compare-size.ensures.value, omega (arith, c.compare-size.ensures.upper_bound))
