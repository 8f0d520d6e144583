-- `transform::cross` meets its contract, row after row.
use Rattle.lists.proofs.Kit.{◌*◌}
use Rattle.transform.specs.Level.{Crossed}
use Rattle.transform.proofs.cross.Given as goal

abbrev pub invariant-loop-o : goal.invariant-loop-o
invariant-loop-o l = Crossed l.src l.ws l.h l.m l.u l.v (l.o * l.m) l.dst
