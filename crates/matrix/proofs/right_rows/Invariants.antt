-- `matrix::right_rows` meets its contract: it fills a row at a time, and no number of the rows before is q or more.
use Rattle.lists.proofs.Kit.{◌≡◌, List, ℕ, ◌+◌, ◌*◌, ◌%◌, length, get_or}
use Rattle.numbers.specs.Sum.{sum_ℕ}
use Rattle.lists.proofs.{Fill.Filled}
use Rattle.matrix.specs.Words.{right_term}
use Rattle.matrix.proofs.Search.{Clear}
use Rattle.matrix.proofs.right_rows.Given as goal

abbrev pub from : ℕ → List ℕ → List ℕ → List ℕ → ℕ → ℕ
from n x cols sums k = (get_or sums k 0 + sum_ℕ n (right_term n x cols k)) % 65536

abbrev pub invariant-loop-i : goal.invariant-loop-i
invariant-loop-i l =
    (length l.line ≡ length l.initial.line) × Clear l.q l.x (l.i * l.n) × Filled (from l.n l.x l.cols l.initial.sums) l.initial.sums l.sums (l.i * 8)
