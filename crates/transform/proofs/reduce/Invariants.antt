-- `transform::reduce` meets its contract: it fills with the remainders.
use Rattle.lists.proofs.Kit.{◌%◌, get_or}
use Rattle.lists.proofs.Fill.{Filled}
use Rattle.transform.proofs.reduce.Given as goal

abbrev pub invariant-loop-k : goal.invariant-loop-k
invariant-loop-k l = Filled (λ k. get_or l.src k 0 % 12289) l.initial.dst l.dst l.k
