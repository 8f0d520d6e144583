-- `transform::on_transforms::lifted` meets its contract.
use Rattle.lists.proofs.Kit.{ap, nat_abs}
use Rattle.transform.proofs.{Small.up_is, Small.stay-is}
use Rattle.transform.proofs.on_transforms.lifted.Goals as goal

pub returns-then-z-lt0 : goal.returns-then-z-lt0
returns-then-z-lt0 c = ap nat_abs (up_is _ c.ranges.z c.requires c.if-z-lt0.true)

pub returns-else-z-lt0 : goal.returns-else-z-lt0
returns-else-z-lt0 c = ap nat_abs (stay-is _ c.ranges.z c.requires c.if-z-lt0.false)
