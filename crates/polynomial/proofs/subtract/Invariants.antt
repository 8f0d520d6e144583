-- `polynomial::subtract` meets its contract.
use Rattle.lists.proofs.Kit.{◌+◌, ◌-ℤ◌}
use Rattle.numbers.specs.Residue.{residue}
use Rattle.lists.specs.{Entries.nums, Ranges.Stored}
use Rattle.polynomial.proofs.subtract.Given as goal

abbrev pub invariant-loop-i : goal.invariant-loop-i
invariant-loop-i l = Stored 0 l.initial.d l.to l.i (λ k. residue l.q (nums l.initial.d (l.x + k) -ℤ nums l.initial.d (l.y + k))) l.d
