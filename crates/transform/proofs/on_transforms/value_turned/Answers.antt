-- `transform::on_transforms::value_turned` meets its contract.
use Rattle.transform.proofs.{Sizes.inverted-below}
use Rattle.transform.proofs.on_transforms.value_turned.Goals as goal

pub add_noise-requires : goal.add_noise-requires
add_noise-requires c =
    (rw c.weigh_back.ensures (inverted-below _), c.requires.e_len.0, c.requires.e_len.1, c.requires.e_len.2)
