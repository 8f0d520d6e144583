-- `sponge::load` meets its contract.
use Rattle.lists.proofs.Kit.{arith}
use Rattle.sponge.proofs.{Lanes.eight}
use Rattle.sponge.proofs.load.Goals as goal

pub returns : goal.returns
returns c = omega (arith, eight c.args.b.now c.requires)
