-- `wire::take_opening` meets its contract.
use Rattle.wire.proofs.{Places.opened, Places.taken}
use Rattle.wire.proofs.take_opening.Goals as goal

pub returns : goal.returns
returns c =
    let s = c.args.scheme in
    let x = taken s c.fixed-f.ensures c.requires.1 (opened s c.fixed-f.ensures c.opening_starts-start.ensures.0 c.args.opening.now) (c.take_message.ensures.value, c.take_message.ensures.nums_after)
    in record { value = x.0; numbers_value = x.1 }
