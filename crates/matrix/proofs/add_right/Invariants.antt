-- `matrix::add_right` meets its contract: it fills a row of sums at a time.
use Rattle.lists.proofs.Kit.{List, ℕ, ◌+◌, ◌*◌, ◌%◌, get_or}
use Rattle.numbers.specs.Sum.{sum_ℕ}
use Rattle.lists.proofs.{Fill.Filled}
use Rattle.matrix.specs.Words.{right_term}
use Rattle.matrix.proofs.add_right.Given as goal

abbrev pub from : ℕ → List ℕ → List ℕ → List ℕ → ℕ → ℕ
from n x cols sums k = (get_or sums k 0 + sum_ℕ n (right_term n x cols k)) % 65536

abbrev pub invariant-loop-i : goal.invariant-loop-i
invariant-loop-i l = Filled (from l.n l.x l.cols l.initial.sums) l.initial.sums l.sums (l.i * 8)
