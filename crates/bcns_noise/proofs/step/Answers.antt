-- `bcns_noise::step` meets its contract.
use Rattle.lists.proofs.Kit.{◌∙◌}
use Rattle.bcns_noise.specs.Limbs.{limbs, limbs_of}
use Rattle.bcns_noise.proofs.{Limbs.pass-next}
use Rattle.bcns_noise.proofs.step.Goals as goal

pub returns : goal.returns
returns c =
    record { value = c.less.ensures.0 ∙ pass-next (limbs_of c.args.t.now c.args.k) (limbs c.args.v.now) c.args.i c.requires.compared.1 c.requires.r_value; upper_bound = c.less.ensures.1 }
