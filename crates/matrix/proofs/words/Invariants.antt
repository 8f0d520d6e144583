-- `matrix::words` meets its contract: it fills with the words of the values.
use Rattle.lists.proofs.Kit.{List, ℕ, ℤ}
use Rattle.numbers.specs.Residue.{residue}
use Rattle.lists.specs.Entries.{ints}
use Rattle.lists.proofs.Fill.{Filled}
use Rattle.matrix.proofs.words.Given as goal

abbrev pub from : List ℤ → ℕ → ℕ
from zs k = residue 65536 (ints zs k)

abbrev pub invariant-loop-k : goal.invariant-loop-k
invariant-loop-k l = Filled (from l.zs) l.initial.out l.out l.k
