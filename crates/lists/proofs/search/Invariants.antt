-- `lists::search` meets its contract.
use Rattle.lists.proofs.Kit.{leb}
use Rattle.lists.proofs.{First.Passed}
use Rattle.lists.proofs.search.Given as goal

abbrev pub invariant-loop-i : goal.invariant-loop-i
invariant-loop-i g l = let t = g.T.Size in Passed (λ x. leb l.q (t.size_of x)) l.xs t.zero l.i
