-- `noise::Thresholds::narrow` meets its contract.
use Rattle.lists.proofs.Kit.{ℕ}
use Rattle.lists.proofs.Fill.{Filled}
use Rattle.noise.specs.Noise.{word_at, threshold_of_lem}
use Rattle.noise.proofs.Thresholds.narrow.Given as goal

abbrev pub invariant-loop-i : goal.invariant-loop-i
invariant-loop-i g l = Filled (λ (k : ℕ). threshold_of_lem l.self.all l.self.bits (word_at l.bytes k)) l.initial.v l.v l.i
