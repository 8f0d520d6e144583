-- `trace::write_summary` meets its contract.
use Rattle.trace.proofs.Writing.{Blocks}
use Rattle.trace.proofs.write_summary.Given as goal

abbrev pub invariant-loop-scheme : goal.invariant-loop-scheme
invariant-loop-scheme l = Blocks l.tallies l.initial.out l.scheme l.out l.at
