-- `wire::steps::lay_values` meets its contract: hints and entries are as many as the scheme has, each within its bits.
use Rattle.values.proofs.Settling.{hints-counted, keys-counted}
use Rattle.wire.proofs.steps.lay_values.Goals as goal

pub lay_message-requires-clause-counted_2 : goal.lay_message-requires-clause-counted_2
lay_message-requires-clause-counted_2 c =
    (rw c.settle.ensures.hints_value (hints-counted c.args.scheme _ _ c.requires.counted.1.long), c.requires.message_len.0)

pub lay_key-requires : goal.lay_key-requires
lay_key-requires c =
    (rw c.settle.ensures.entries_value (keys-counted c.args.scheme _ _ c.requires.counted.1.long), c.requires.message_len.1)
