-- `matrix::left_rows` meets its contract: after t rows each sum has gained t products, and none of their numbers is q or more. The last block may end at fewer
-- than four rows more, so t rows are no more than n.
use Rattle.lists.proofs.Kit.{◌≡◌, ◌*◌, length, min}
use Rattle.matrix.specs.Words.{gained, left_term}
use Rattle.matrix.proofs.Search.{Clear}
use Rattle.matrix.proofs.left_rows.Given as goal

abbrev pub invariant-loop-t : goal.invariant-loop-t
invariant-loop-t l =
    (length l.block ≡ length l.initial.block) × Clear l.q l.y (min l.t l.n * l.c) × (l.sums ≡ gained 65536 (min l.t l.n) (left_term l.n l.c l.s l.y) l.initial.sums)
