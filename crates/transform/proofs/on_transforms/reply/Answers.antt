-- `transform::on_transforms::reply` meets its contract.
use Rattle.lists.proofs.Kit.{◌∙◌, ap, length}
use Rattle.transform.proofs.Sizes.{transformed-length, transformed-below}
use Rattle.transform.proofs.{Mixing.mixed-through, Mixing.value-through}
use Rattle.transform.proofs.on_transforms.reply.Goals as goal

pub value_turned-requires : goal.value_turned-requires
value_turned-requires c =
    let e = c.turn.ensures in
    record { b_len = (c.requires.a_len.2, c.requires.a_len.3, ap length e ∙ transformed-length _, rw e (transformed-below _)); e_len = (c.requires.s_len.4, c.requires.s_len.5, c.requires.a_len.4) }

pub mix_turned-requires : goal.mix_turned-requires
mix_turned-requires c =
    record { a_len = (c.requires.a_len.0, c.requires.a_len.1, rw c.turn.ensures (transformed-below _)); e_len = (c.requires.s_len.2, c.requires.s_len.3, c.value_turned.ensures.x_len, c.requires.a_len.2) }

pub returns : goal.returns
returns c =
    let e = c.turn.ensures in record { b_value = c.mix_turned.ensures ∙ mixed-through _ _ c.requires.a_len.1 c.requires.a_len.0 _ e _; v_value = c.value_turned.ensures.out_value ∙ value-through _ _ c.requires.a_len.3 c.requires.a_len.2 _ e _ }
