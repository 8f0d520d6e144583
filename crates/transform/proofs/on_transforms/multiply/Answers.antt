-- `transform::on_transforms::multiply` meets its contract: what is made in a local array is put out.
use Rattle.lists.proofs.Kit.{◌∙◌, ap, length}
use Rattle.transform.proofs.Sizes.{transformed-length, transformed-below}
use Rattle.transform.proofs.{Mixing.bare-through}
use Rattle.transform.proofs.on_transforms.multiply.Goals as goal

pub weigh_back-requires : goal.weigh_back-requires
weigh_back-requires c =
    let e = c.turn.ensures in
    (c.requires.u_len.0, c.requires.u_len.1, ap length e ∙ transformed-length _, rw e (transformed-below _))

pub returns : goal.returns
returns c =
    c.copy_from_slice.ensures.after ∙ c.weigh_back.ensures ∙ bare-through _ _ c.requires.u_len.1 c.requires.u_len.0 _ c.turn.ensures
