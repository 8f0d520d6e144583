-- `polynomial::entries` meets its contract: it fills with the sums, reduced.
use Rattle.lists.proofs.Kit.{List, ℕ, ℤ, ◌+ℤ◌}
use Rattle.numbers.specs.Residue.{residue}
use Rattle.schemes.specs.Schemes.{bcns}
use Rattle.lists.specs.Entries.{ints}
use Rattle.lists.proofs.Fill.{Filled}
use Rattle.polynomial.proofs.entries.Given as goal

abbrev pub by : List ℤ → List ℤ → ℕ → ℕ
by o e k = residue bcns.q (ints o k +ℤ ints e k)

abbrev pub invariant-loop-k : goal.invariant-loop-k
invariant-loop-k l = Filled (by l.o l.e) l.initial.out l.out l.k
