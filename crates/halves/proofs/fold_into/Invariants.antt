-- `halves::fold_into` meets its contract: it fills with the folded numbers.
use Rattle.lists.proofs.Kit.{◌+◌, ◌-◌, ◌%◌, get_or}
use Rattle.lists.proofs.Fill.{Filled}
use Rattle.halves.specs.Halves.{q}
use Rattle.halves.proofs.fold_into.Given as goal

abbrev pub invariant-loop-i : goal.invariant-loop-i
invariant-loop-i l = Filled (λ k. (get_or l.w k 0 + (q - get_or l.w (l.n + k) 0)) % q) l.initial.out l.out l.i
