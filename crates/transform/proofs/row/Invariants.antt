-- `transform::row` meets its contract: each turn makes one more entry of each half.
use Rattle.lists.proofs.Kit.{◌+◌, ◌*◌}
use Rattle.transform.specs.Level.{Crossed}
use Rattle.transform.proofs.row.Given as goal

abbrev pub invariant-loop-i : goal.invariant-loop-i
invariant-loop-i l = Crossed l.src l.ws l.h l.m l.u l.v (l.o * l.m + l.i) l.dst
