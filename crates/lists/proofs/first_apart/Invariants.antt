-- `lists::first_apart` meets its contract.
use Rattle.lists.proofs.Kit.{length}
use Rattle.lists.proofs.{First.Tried, First.differ}
use Rattle.lists.proofs.first_apart.Given as goal

abbrev pub invariant-loop-at : goal.invariant-loop-at
invariant-loop-at l = Tried (length l.xs) (differ l.xs l.ys) l.at
