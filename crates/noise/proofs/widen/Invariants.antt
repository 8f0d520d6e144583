-- `noise::widen` meets its contract.
use Rattle.lists.proofs.Kit.{ℕ, pos, get_or}
use Rattle.lists.proofs.Fill.{Filled}
use Rattle.noise.proofs.widen.Given as goal

abbrev pub invariant-loop-k : goal.invariant-loop-k
invariant-loop-k l = Filled (λ (j : ℕ). get_or l.v j (pos 0)) l.initial.out l.out l.k
