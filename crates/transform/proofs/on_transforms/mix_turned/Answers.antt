-- `transform::on_transforms::mix_turned` meets its contract.
use Rattle.transform.proofs.{Sizes.transformed-below}
use Rattle.transform.proofs.on_transforms.mix_turned.Goals as goal

pub combine-requires : goal.combine-requires
combine-requires c =
    record { a_len = (c.requires.a_len.0, c.requires.a_len.1, c.requires.e_len.3); below = (c.requires.a_len.2, rw c.turn.ensures (transformed-below _)) }
