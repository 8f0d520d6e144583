-- `bcns_noise::count` meets its contract.
use Rattle.lists.proofs.Kit.{ℕ}
use Rattle.std.proofs.Common.{◌≡◌, ◌≤◌}
use Rattle.bcns_noise.specs.Limbs.{limbs, limbs_of, passes, tally}
use Rattle.bcns_noise.proofs.count.Given as goal

abbrev pub invariant-loop-k : goal.invariant-loop-k
invariant-loop-k l = (l.size ≡ tally l.k (λ (j : ℕ). passes (limbs_of l.t j) (limbs l.v) 0 8)) × (l.size ≤ l.k)
