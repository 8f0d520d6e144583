-- `finish::initiator::settle` meets its contract: entries, bytes, slacks and the largest of them.
use Rattle.lists.proofs.Kit.{ap, ◌∙◌}
use Rattle.schemes.specs.Schemes.{fixed_of}
use Rattle.lists.specs.First.{peak_of_lem}
use Rattle.packing.specs.Packing.{packed}
use Rattle.values.proofs.Settling.{peers-counted}
use Rattle.finish.proofs.initiator.settle.Goals as goal

pub lay_key-requires : goal.lay_key-requires
lay_key-requires c =
    let a = c.args in
    (rw c.peers.ensures (peers-counted a.scheme _ _ c.requires.counted.0.long), c.requires.counted_2.1)

pub returns : goal.returns
returns c =
    record { key_value = c.lay_key.ensures ∙ ap (packed (fixed_of c.args.scheme).keybits) c.peers.ensures; value = c.peak_of.ensures ∙ ap peak_of_lem c.slacks.ensures }
