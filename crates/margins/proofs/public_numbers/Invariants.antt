-- `margins::public_numbers`: the number to be written stays below q.
use Rattle.std.proofs.Common.{◌<◌}
use Rattle.margins.proofs.public_numbers.Given as goal

abbrev pub invariant-loop-entry : goal.invariant-loop-entry
invariant-loop-entry l = l.x < l.q
