-- `sponge::xor_block` meets its contract: it fills the first lanes, and over the others nothing is laid.
use Rattle.lists.proofs.Kit.{arith, length-take, length-drop}
use Rattle.lists.proofs.Fill.{fill_start}
use Rattle.sponge.proofs.{Lanes.laid_next, Lanes.laid-all}
use Rattle.sponge.proofs.xor_block.Goals as goal

pub load-requires : goal.load-requires
load-requires c = simp (length-take, length-drop) (omega arith)

pub loop-i-preserved : goal.loop-i-preserved
loop-i-preserved c =
    laid_next c.args.s c.args.b.now c.loop-i.invariant c.load.result (omega arith) c.load.ensures

pub returns : goal.returns
returns c =
    laid-all c.args.s c.args.b.now c.loop-i.invariant (omega arith) (omega arith)

pub loop-i-init : goal.loop-i-init
loop-i-init c = fill_start _ _
