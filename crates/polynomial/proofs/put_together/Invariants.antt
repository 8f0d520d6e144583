-- `polynomial::put_together` meets its contract.
use Rattle.lists.proofs.Kit.{◌+◌, pos, ◌+ℤ◌, ◌*ℤ◌}
use Rattle.lists.specs.{Entries.ints, Ranges.Stored}
use Rattle.polynomial.proofs.put_together.Given as goal

abbrev pub invariant-loop-k : goal.invariant-loop-k
invariant-loop-k l = Stored (pos 0) l.initial.o 0 l.k (λ j. ints l.initial.o j *ℤ pos 65536 +ℤ ints l.initial.o (l.n + j)) l.o
