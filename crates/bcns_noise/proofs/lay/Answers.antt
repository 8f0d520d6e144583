-- `bcns_noise::lay` meets its contract: row by row.
use Rattle.lists.proofs.Kit.{refl}
use Rattle.bcns_noise.proofs.{Limbs.laid_none, Limbs.laid_next}
use Rattle.bcns_noise.proofs.lay.Goals as goal

pub loop-i-init : goal.loop-i-init
loop-i-init c = laid_none _ 448 c.requires.1 refl

pub loop-i-preserved : goal.loop-i-preserved
loop-i-preserved c =
    laid_next c.loop-i.invariant c.lay_row.ensures
