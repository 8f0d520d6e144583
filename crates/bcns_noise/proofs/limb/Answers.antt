-- `bcns_noise::limb` meets its contract.
use Rattle.lists.proofs.Kit.{arith}
use Rattle.bcns_noise.proofs.{Limbs.table-limb}
use Rattle.bcns_noise.proofs.limb.Goals as goal

pub returns : goal.returns
returns c = (
  table-limb c.args.table.now c.args.n c.requires c.byte.ensures.0 c.byte-2.ensures.0 c.byte-3.ensures.0,
  omega (arith, c.byte.ensures.1, c.byte-2.ensures.1, c.byte-3.ensures.1),
  c.byte.ensures.2,
)
