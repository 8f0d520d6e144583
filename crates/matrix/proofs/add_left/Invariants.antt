-- `matrix::add_left` meets its contract: it fills a row of sums at a time.
use Rattle.lists.proofs.Kit.{List, ℕ, ◌+◌, ◌*◌, ◌%◌, get_or}
use Rattle.numbers.specs.Sum.{sum_ℕ}
use Rattle.lists.proofs.Fill.{Filled}
use Rattle.matrix.specs.{Steps.part_term}
use Rattle.matrix.proofs.add_left.Given as goal

abbrev pub from : ℕ → ℕ → ℕ → ℕ → List ℕ → List ℕ → List ℕ → ℕ → ℕ
from n c t m s y sums k = (get_or sums k 0 + sum_ℕ m (part_term n c t s y k)) % 65536

abbrev pub invariant-loop-i : goal.invariant-loop-i
invariant-loop-i l = Filled (from l.n l.c l.t l.m l.s l.y l.initial.sums) l.initial.sums l.sums (l.i * l.c)
