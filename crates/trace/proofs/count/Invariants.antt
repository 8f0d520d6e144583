-- `trace::count` meets its contract.
use Rattle.trace.proofs.Counting.{Going}
use Rattle.trace.proofs.count.Given as goal

abbrev pub invariant-loop : goal.invariant-loop
invariant-loop l = Going l.s l.tallies l.at l.counter
