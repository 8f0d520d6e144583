-- `parts::some_columns` meets its contract: it fills with the words of one row of S' at a time.
use Rattle.lists.proofs.Kit.{List, ℕ, ◌+◌, ◌*◌, ◌/◌, ◌%◌, get_or}
use Rattle.lists.proofs.{Fill.Filled}
use Rattle.parts.specs.Parts.{words}
use Rattle.parts.proofs.some_columns.Given as goal

abbrev pub from : ℕ → ℕ → ℕ → List ℕ → ℕ → ℕ
from h r c secret k = get_or (words secret) (k / (2 * c) * (2 * h) + (2 * r + k % (2 * c))) 0

abbrev pub invariant-loop-k : goal.invariant-loop-k
invariant-loop-k l = Filled (from l.h l.r l.c l.secret) l.initial.out l.out (l.k * (2 * l.c))
