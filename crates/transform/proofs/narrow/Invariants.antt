-- `transform::narrow` meets its contract: it fills with the entries.
use Rattle.lists.proofs.Kit.{get_or}
use Rattle.lists.proofs.{Fill.Filled}
use Rattle.transform.proofs.narrow.Given as goal

abbrev pub invariant-loop-k : goal.invariant-loop-k
invariant-loop-k l = Filled (λ k. get_or l.src k 0) l.initial.dst l.dst l.k
