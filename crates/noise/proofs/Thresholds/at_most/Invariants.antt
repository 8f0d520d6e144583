-- `noise::Thresholds::at_most` meets its contract.
use Rattle.noise.proofs.{Noise.Counted}
use Rattle.noise.proofs.Thresholds.at_most.Given as goal

abbrev pub invariant-loop-x : goal.invariant-loop-x
invariant-loop-x g l = Counted l.self.all l.t l.x-index l.size
