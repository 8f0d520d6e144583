-- `halves::size_in` meets its contract.
use Rattle.halves.proofs.{Multiplied.size-passes, Multiplied.size-fails}
use Rattle.halves.proofs.size_in.Goals as goal

pub returns-then-is_size : goal.returns-then-is_size
returns-then-is_size c = size-passes _ c.is_size.ensures c.if-is_size.true

pub returns-else-is_size : goal.returns-else-is_size
returns-else-is_size c = size-fails _ c.is_size.ensures c.if-is_size.false
