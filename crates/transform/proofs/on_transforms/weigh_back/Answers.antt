-- `transform::on_transforms::weigh_back` meets its contract.
use Rattle.lists.proofs.Kit.{◌∙◌, ap, length}
use Rattle.transform.proofs.{Sizes.entrywise-length, Sizes.entrywise-below}
use Rattle.transform.proofs.on_transforms.weigh_back.Goals as goal

pub back-requires : goal.back-requires
back-requires c =
    let e = c.weigh.ensures in
    (rw e (entrywise-below _ _), ap length e ∙ entrywise-length _ _)
