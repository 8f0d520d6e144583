-- `matrix::add_products` meets its contract: it fills with each sum and its product.
use Rattle.lists.proofs.Kit.{List, ℕ, ◌+◌, ◌*◌, ◌%◌, get_or}
use Rattle.lists.proofs.Fill.{Filled}
use Rattle.matrix.proofs.add_products.Given as goal

abbrev pub from : ℕ → ℕ → ℕ → List ℕ → List ℕ → ℕ → ℕ
from x n t cols sums j = (get_or sums j 0 + x * get_or cols (j * n + t) 0) % 65536

abbrev pub invariant-loop-j : goal.invariant-loop-j
invariant-loop-j l = Filled (from l.x l.n l.t l.cols l.initial.sums) l.initial.sums l.sums l.j
