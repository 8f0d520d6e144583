-- `halves::two_rows` meets its contract: k of the 33 columns have the two rows.
use Rattle.lists.proofs.Kit.{arith}
use Rattle.halves.proofs.{Columns.doing-none, Columns.doing-next, Columns.doing-all}
use Rattle.halves.proofs.two_rows.Goals as goal

pub loop-k-init : goal.loop-k-init
loop-k-init c = doing-none c.requires.padded.1

pub loop-k-preserved : goal.loop-k-preserved
loop-k-preserved c =
    doing-next c.requires.padded.0 c.loop-k.invariant (omega arith) c.requires.in_bounds.1 (omega arith) (omega arith) c.times-p.ensures c.times-r.ensures
    c.low.ensures c.low-in-loop-k.ensures c.high.ensures.0 c.high-in-loop-k.ensures.0

pub returns : goal.returns
returns c = doing-all c.loop-k.invariant (omega arith)
