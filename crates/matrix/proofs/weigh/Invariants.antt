-- `matrix::weigh` meets its contract: after u rows the sum has gained u products.
use Rattle.lists.proofs.Kit.{◌≡◌, ◌+◌, ◌%◌}
use Rattle.numbers.specs.Sum.{sum_ℕ}
use Rattle.matrix.specs.Steps.{block_term}
use Rattle.matrix.proofs.weigh.Given as goal

abbrev pub invariant-loop-u : goal.invariant-loop-u
invariant-loop-u l = l.sum ≡ (l.start + sum_ℕ l.u (block_term l.c l.w l.y l.j)) % 65536
