-- `matrix::dots_on` meets its contract: after t numbers of the row each sum has gained t products.
use Rattle.lists.proofs.Kit.{◌≡◌}
use Rattle.matrix.specs.{Steps.dot_term, Words.gained}
use Rattle.matrix.proofs.dots_on.Given as goal

abbrev pub invariant-loop-t : goal.invariant-loop-t
invariant-loop-t l = l.sums ≡ gained 65536 l.t (dot_term l.n l.row l.cols) l.initial.sums
