-- `parts::put_each` meets its contract: after k turns k words are laid.
use Rattle.lists.proofs.Kit.{◌≡◌, length}
use lib.Seq.{paste}
use Rattle.parts.specs.Parts.{words}
use Rattle.parts.proofs.put_each.Given as goal

abbrev pub invariant-loop-k : goal.invariant-loop-k
invariant-loop-k l = (length l.out ≡ length l.initial.out) × (words l.out ≡ paste (words l.initial.out) l.at l.ws l.k)
