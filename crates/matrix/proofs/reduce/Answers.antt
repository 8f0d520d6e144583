-- `matrix::reduce` meets its contract: it fills with the remainders of the sums.
use Rattle.lists.proofs.Kit.{arith}
use Rattle.lists.proofs.Fill.{fill_start, fill-next, fill-whole}
use Rattle.matrix.specs.Words.{reduced}
use Rattle.matrix.proofs.reduce.Goals as goal

pub loop-k-preserved : goal.loop-k-preserved
loop-k-preserved c =
    fill-next _ c.loop-k.invariant (omega arith) c.remainder.ensures

pub returns : goal.returns
unfolding reduced
returns c =
    fill-whole c.loop-k.invariant c.requires.3 (omega arith)

pub loop-k-init : goal.loop-k-init
loop-k-init c = fill_start _ _
