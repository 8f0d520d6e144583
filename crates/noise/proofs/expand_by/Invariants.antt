-- `noise::expand_by` meets its contract: its loop stores each word's number, and counts those that the rule takes.
use Rattle.noise.specs.Expand.{rule}
use Rattle.noise.proofs.{Stream.Storing}
use Rattle.noise.proofs.expand_by.Given as goal

abbrev pub invariant-loop-i : goal.invariant-loop-i
invariant-loop-i l = Storing (rule l.name) l.stream l.initial.out l.out l.n l.i
