-- `polynomial::dots` meets its contract.
use Rattle.lists.proofs.Kit.{◌+◌, pos}
use Rattle.lists.specs.{Entries.ints, Ranges.Stored}
use Rattle.polynomial.specs.Steps.{slide}
use Rattle.polynomial.proofs.dots.Given as goal

abbrev pub invariant-loop-k : goal.invariant-loop-k
invariant-loop-k l = Stored (pos 0) l.initial.o l.to l.k (slide l.n (λ i. ints l.t (l.x + i)) (ints l.t)) l.o
