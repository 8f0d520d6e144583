-- `lists::bits_of` meets its contract.
use Rattle.lists.proofs.{First.Reached}
use Rattle.lists.proofs.bits_of.Given as goal

abbrev pub invariant-loop-x : goal.invariant-loop-x
invariant-loop-x l = Reached (λ x. x) 0 l.xs l.x-index l.bits
