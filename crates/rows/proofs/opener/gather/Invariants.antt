-- `rows::opener::gather` meets its contract: it fills with the entries of the source.
use Rattle.lists.proofs.Kit.{get_or}
use Rattle.lists.proofs.{Fill.Filled}
use Rattle.rows.proofs.opener.gather.Given as goal

abbrev pub invariant-loop-k : goal.invariant-loop-k
invariant-loop-k l = Filled (λ i. get_or l.xs i 0) l.initial.out l.out l.k
