-- `matrix::lay` meets its contract: it fills with the words of column after column.
use Rattle.lists.proofs.Kit.{◌≡◌, ℕ, ◌+◌, ◌*◌, ◌/◌, ◌%◌, ◌<◌}
use Rattle.lists.proofs.Fill.{Filled}
use Rattle.matrix.proofs.lay.Given as goal

-- what lies at place k of the columns, where f gives what lies at a place of the matrix
abbrev pub from : ℕ → (ℕ → ℕ) → ℕ → ℕ
from n f k = f (k % n * 8 + k / n)

abbrev pub invariant-loop-j : goal.invariant-loop-j
invariant-loop-j g l =
    (f : ℕ → ℕ) → ((k r : ℕ) → k < 8 * l.n → goal.F-post g l.at k r → r ≡ f k) → Filled (from l.n f) l.initial.cols l.cols (l.j * l.n)

abbrev pub invariant-loop-t : goal.invariant-loop-t
invariant-loop-t g l =
    (f : ℕ → ℕ) → ((k r : ℕ) → k < 8 * l.n → goal.F-post g l.at k r → r ≡ f k) → Filled (from l.n f) l.fn.cols l.cols (l.j * l.n + l.t)
