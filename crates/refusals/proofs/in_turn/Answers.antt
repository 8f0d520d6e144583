-- `refusals::in_turn` meets its contract.
use Rattle.refusals.specs.Refusals.{in_turn}
use Rattle.refusals.proofs.in_turn.Goals as goal

pub returns-then-has : goal.returns-then-has
returns-then-has c = unfold in_turn in rw c.if-has.true

pub returns-else-has : goal.returns-else-has
returns-else-has c = unfold in_turn in rw c.if-has.false
