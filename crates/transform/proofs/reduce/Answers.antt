-- `transform::reduce` meets its contract: it fills with the remainders.
use Rattle.lists.proofs.Kit.{refl, arith}
use Rattle.lists.proofs.Fill.{fill_start, fill-next, fill-whole}
use Rattle.transform.specs.Level.{remainders}
use Rattle.transform.proofs.reduce.Goals as goal

pub loop-k-preserved : goal.loop-k-preserved
loop-k-preserved c = fill-next _ c.loop-k.invariant (omega arith) refl

pub returns : goal.returns
unfolding remainders
returns c = fill-whole c.loop-k.invariant c.requires.1 (omega arith)

pub loop-k-init : goal.loop-k-init
loop-k-init c = fill_start _ _
