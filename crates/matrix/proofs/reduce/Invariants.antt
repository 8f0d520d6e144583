-- `matrix::reduce` meets its contract: it fills with the remainders of the sums.
use Rattle.lists.proofs.Kit.{List, ℕ, ◌%◌, get_or}
use Rattle.lists.proofs.Fill.{Filled}
use Rattle.matrix.proofs.reduce.Given as goal

abbrev pub from : ℕ → List ℕ → ℕ → ℕ
from q sums k = get_or sums k 0 % q

abbrev pub invariant-loop-k : goal.invariant-loop-k
invariant-loop-k l = Filled (from l.q l.sums) l.initial.out l.out l.k
