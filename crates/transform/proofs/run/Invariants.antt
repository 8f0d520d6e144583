-- `transform::run` meets its contract: each turn makes one more entry of each half.
use Rattle.lists.proofs.Kit.{◌+◌}
use Rattle.transform.specs.Level.{Butterflies}
use Rattle.transform.proofs.run.Given as goal

abbrev pub invariant-loop-j : goal.invariant-loop-j
invariant-loop-j l = Butterflies l.src l.a l.h (l.k + l.j) l.dst
