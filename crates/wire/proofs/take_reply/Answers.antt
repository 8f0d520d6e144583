-- `wire::take_reply` meets its contract.
use Rattle.wire.proofs.{Places.replied, Places.taken}
use Rattle.wire.proofs.take_reply.Goals as goal

pub returns : goal.returns
returns c =
    let s = c.args.scheme in
    let x = taken s c.fixed-f.ensures c.requires.1 (replied s c.fixed-f.ensures c.args.reply.now) (c.take_message.ensures.value, c.take_message.ensures.nums_after)
    in record { value = x.0; numbers_value = x.1 }
