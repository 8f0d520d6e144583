-- `halves::lay_second` meets its contract.
use Rattle.lists.specs.Ranges.{Below, Stored}
use Rattle.halves.specs.Steps.{from}
use Rattle.halves.proofs.lay_second.Given as goal

abbrev pub invariant-loop-k : goal.invariant-loop-k
invariant-loop-k l = Stored 0 l.initial.b 1 l.k (from l.w 32) l.b × Below 4294967296 l.b
