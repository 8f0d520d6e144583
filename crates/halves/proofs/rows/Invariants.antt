-- `halves::rows` meets its contract.
use Rattle.lists.proofs.Kit.{◌*◌}
use Rattle.halves.specs.Steps.{Rows}
use Rattle.halves.proofs.rows.Given as goal

abbrev pub invariant-loop-i : goal.invariant-loop-i
invariant-loop-i l = Rows l.w (2 * l.i) l.lows l.highs
