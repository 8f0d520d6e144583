-- `lists::largest` meets its contract.
use Rattle.lists.proofs.{First.Most}
use Rattle.lists.proofs.largest.Given as goal

abbrev pub invariant-loop-x : goal.invariant-loop-x
invariant-loop-x g l = let t = g.T.Size in Most t.size_of t.zero l.xs l.x-index l.most
