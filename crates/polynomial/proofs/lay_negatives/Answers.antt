-- `polynomial::lay_negatives` meets its contract.
use Rattle.lists.proofs.Kit.{arith}
use Rattle.lists.specs.{Entries.nums}
use Rattle.lists.proofs.Stored.{store-front}
use Rattle.polynomial.proofs.lay_negatives.Goals as goal

pub loop-i-preserved : goal.loop-i-preserved
unfolding nums
loop-i-preserved c = store-front c.loop-i.invariant (omega arith) c.negative.ensures
