-- `matrix::add_words` meets its contract: it fills with each sum and its word.
use Rattle.lists.proofs.Kit.{List, ℕ, ◌+◌, ◌%◌, get_or}
use Rattle.lists.proofs.Fill.{Filled}
use Rattle.matrix.proofs.add_words.Given as goal

abbrev pub from : List ℕ → List ℕ → ℕ → ℕ
from ws sums k = (get_or sums k 0 + get_or ws k 0) % 65536

abbrev pub invariant-loop-k : goal.invariant-loop-k
invariant-loop-k l = Filled (from l.ws l.initial.sums) l.initial.sums l.sums l.k
