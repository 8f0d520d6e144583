-- `parts::add_left` meets its contract: after t rows each sum has gained t products.
use Rattle.lists.proofs.Kit.{◌≡◌, ◌%◌, ◌≤◌, length}
use Rattle.matrix.specs.{Steps.part_term, Words.gained}
use Rattle.parts.specs.Parts.{words}
use Rattle.parts.proofs.add_left.Given as goal

abbrev pub invariant-loop-t : goal.invariant-loop-t
invariant-loop-t l =
    (l.t ≤ l.w) × (l.t % 4 ≡ 0) × (length l.block ≡ length l.initial.block) × (l.sums ≡ gained 65536 l.t (part_term l.w l.n 0 l.s (words l.x)) l.initial.sums)
