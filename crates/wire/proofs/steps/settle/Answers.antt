-- `wire::steps::settle` meets its contract: the coins are as many as there are groups, each within its bits.
use Rattle.wire.proofs.Travel.{coins-given}
use Rattle.wire.proofs.steps.settle.Goals as goal

pub hints-requires-clause-counted_2 : goal.hints-requires-clause-counted_2
hints-requires-clause-counted_2 c = rw c.take_coins.ensures (coins-given c.args.scheme c.args.coins.now)

pub keys-requires-clause-counted_2 : goal.keys-requires-clause-counted_2
keys-requires-clause-counted_2 c = rw c.take_coins.ensures (coins-given c.args.scheme c.args.coins.now)
