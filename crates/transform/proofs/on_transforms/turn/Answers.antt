-- `transform::on_transforms::turn` meets its contract.
use Rattle.lists.proofs.Kit.{◌∙◌, ap, length}
use Rattle.transform.proofs.{Sizes.reduced-length, Sizes.reduced-below}
use Rattle.transform.proofs.on_transforms.turn.Goals as goal

pub ahead-requires : goal.ahead-requires
ahead-requires c =
    let e = c.reduce.ensures in
    (rw e (reduced-below _), ap length e ∙ reduced-length _)
