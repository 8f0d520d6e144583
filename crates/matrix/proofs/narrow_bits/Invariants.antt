-- `matrix::narrow_bits` meets its contract: it fills with the numbers where they fit, and none that was passed is over the bits.
use Rattle.lists.proofs.Kit.{◌≡◌, ℕ, ◌≤◌, ◌<◌, length, get_or}
use Rattle.lists.specs.{Ranges.Below}
use Rattle.lists.proofs.{Fill.Filled}
use Rattle.matrix.proofs.narrow_bits.Given as goal

abbrev pub invariant-loop-k : goal.invariant-loop-k
invariant-loop-k l =
    (length l.out ≡ length l.initial.out) × ((i : ℕ) → i < l.k → get_or l.xs i 0 ≤ l.bits) × (Below 32768 l.xs → Filled (λ i. get_or l.xs i 0) l.initial.out l.out l.k)
