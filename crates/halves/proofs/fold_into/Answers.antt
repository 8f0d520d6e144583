-- `halves::fold_into` meets its contract: it fills with the folded numbers.
use Rattle.lists.proofs.Kit.{arith}
use Rattle.lists.proofs.Fill.{fill_start, fill-next}
use Rattle.halves.proofs.fold_into.Goals as goal

pub loop-i-init : goal.loop-i-init
loop-i-init c = fill_start _ _

pub loop-i-preserved : goal.loop-i-preserved
loop-i-preserved c = fill-next _ c.loop-i.invariant (omega arith) c.minus.ensures
