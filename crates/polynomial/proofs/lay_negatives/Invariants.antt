-- `polynomial::lay_negatives` meets its contract.
use Rattle.lists.proofs.Kit.{neg_ℤ}
use Rattle.numbers.specs.Residue.{residue}
use Rattle.lists.specs.{Entries.nums, Ranges.Stored}
use Rattle.polynomial.proofs.lay_negatives.Given as goal

abbrev pub invariant-loop-i : goal.invariant-loop-i
invariant-loop-i l = Stored 0 l.initial.d 0 l.i (λ j. residue l.q (neg_ℤ (nums l.a j))) l.d
