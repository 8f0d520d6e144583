-- `transform::on_transforms::mix` meets its contract.
use Rattle.lists.proofs.Kit.{◌∙◌, rules}
use Rattle.transform.proofs.{Sizes.transformed-below, Mixing.mixed-through}
use Rattle.transform.proofs.on_transforms.mix.Goals as goal

pub mix_turned-requires : goal.mix_turned-requires
mix_turned-requires c =
    record { a_len = (c.requires.a_len.0, c.requires.a_len.1, rw c.turn.ensures (transformed-below _)); e_len = (c.requires.e_len, c.requires.within_2, search rules, c.requires.a_len.3) }

pub returns : goal.returns
returns c =
    c.mix_turned.ensures ∙ mixed-through _ _ c.requires.a_len.1 c.requires.a_len.0 _ c.turn.ensures _
