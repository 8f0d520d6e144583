-- `polynomial::reverse` meets its contract: it writes the entries of the secret, the last one first.
use Rattle.lists.proofs.Kit.{◌+◌, ◌-◌, length, pos}
use Rattle.lists.specs.{Entries.ints, Ranges.Stored}
use Rattle.polynomial.proofs.reverse.Given as goal

abbrev pub invariant-loop-j : goal.invariant-loop-j
invariant-loop-j l = Stored (pos 0) l.initial.t 0 l.j (λ i. ints l.s (length l.s - (i + 1))) l.t
