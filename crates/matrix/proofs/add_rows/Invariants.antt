-- `matrix::add_rows` meets its contract: it fills with each sum and its products.
use Rattle.lists.proofs.Kit.{List, ℕ, ◌+◌, ◌%◌, length, get_or}
use Rattle.numbers.specs.Sum.{sum_ℕ}
use Rattle.lists.proofs.Fill.{Filled}
use Rattle.matrix.specs.{Steps.block_term}
use Rattle.matrix.proofs.add_rows.Given as goal

abbrev pub from : List ℕ → List ℕ → List ℕ → ℕ → ℕ
from w y sums j = (get_or sums j 0 + sum_ℕ (length w) (block_term (length sums) w y j)) % 65536

abbrev pub invariant-loop-j : goal.invariant-loop-j
invariant-loop-j l = Filled (from l.w l.y l.initial.sums) l.initial.sums l.sums l.j
