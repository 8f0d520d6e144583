-- `bcns_noise::compare` meets its contract: below the lowest limb there is none, and so all of them pass.
use Rattle.lists.proofs.Kit.{rules}
use Rattle.bcns_noise.specs.Limbs.{passes}
use Rattle.bcns_noise.proofs.compare.Goals as goal

pub step-requires : goal.step-requires
unfolding passes
step-requires c = search rules
