-- `halves::settle` meets its contract.
use Rattle.lists.proofs.Kit.{ℕ, ◌+◌, ◌*◌, ◌%◌, get_or}
use Rattle.lists.specs.Ranges.{Stored}
use Rattle.halves.specs.Halves.{q}
use Rattle.halves.proofs.settle.Given as goal

abbrev pub invariant-loop-k : goal.invariant-loop-k
invariant-loop-k l = Stored 0 l.initial.w 0 l.k (λ (j : ℕ). (get_or l.lows j 0 + 2 * get_or l.highs j 0) % q) l.w
