-- `transform::lay` meets its contract: each turn lays one more power and its factor.
use Rattle.transform.specs.Level.{Powers}
use Rattle.transform.proofs.lay.Given as goal

abbrev pub invariant-loop-i : goal.invariant-loop-i
invariant-loop-i l = Powers l.a l.h l.i l.ws l.fs
