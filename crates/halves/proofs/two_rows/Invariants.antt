-- `halves::two_rows` meets its contract: k of the 33 columns have the two rows.
use Rattle.halves.proofs.{Columns.Doing}
use Rattle.halves.proofs.two_rows.Given as goal

abbrev pub invariant-loop-k : goal.invariant-loop-k
invariant-loop-k l = Doing l.w l.i l.k l.lows l.highs
