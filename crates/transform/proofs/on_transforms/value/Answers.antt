-- `transform::on_transforms::value` meets its contract.
use Rattle.lists.proofs.Kit.{◌∙◌, ap, length}
use Rattle.transform.proofs.{Sizes.transformed-length, Sizes.transformed-below, Mixing.value-through}
use Rattle.transform.proofs.on_transforms.value.Goals as goal

pub value_turned-requires : goal.value_turned-requires
value_turned-requires c =
    let e = c.turn.ensures in
    record { b_len = (c.requires.b_len.0, c.requires.b_len.1, ap length e ∙ transformed-length _, rw e (transformed-below _)); e_len = (c.requires.e_len, c.requires.within_2, c.requires.b_len.3) }

pub returns : goal.returns
returns c =
    c.value_turned.ensures.out_value ∙ value-through _ _ c.requires.b_len.1 c.requires.b_len.0 _ c.turn.ensures _
