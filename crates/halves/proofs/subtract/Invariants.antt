-- `halves::subtract` meets its contract.
use Rattle.lists.proofs.Kit.{◌+◌, ◌-◌, ◌%◌}
use Rattle.lists.specs.Ranges.{Stored}
use Rattle.halves.specs.{Halves.q, Steps.from}
use Rattle.halves.proofs.subtract.Given as goal

abbrev pub invariant-loop-i : goal.invariant-loop-i
invariant-loop-i l = Stored 0 l.initial.w l.to l.i (λ k. (from l.initial.w l.to k + (q - from l.initial.w l.x k) + (q - from l.initial.w l.y k)) % q) l.w
