-- `noise::widen` meets its contract.
use Rattle.lists.proofs.Kit.{◌∙◌, sym, arith, pos, get_or}
use Rattle.lists.proofs.{Entries.tab-getD, Fill.fill_start, Fill.fill-next, Fill.fill-whole}
use Rattle.noise.proofs.{Blocks.wide}
use Rattle.noise.proofs.widen.Goals as goal

pub loop-k-init : goal.loop-k-init
loop-k-init c = fill_start _ _

pub loop-k-preserved : goal.loop-k-preserved
loop-k-preserved c = fill-next _ c.loop-k.invariant (omega arith) (wide (get_or c.args.v.now c.loop-k.k (pos 0)) c.from.result (record { sfits = omega arith }) c.from.ensures)

pub returns : goal.returns
returns c = fill-whole c.loop-k.invariant (sym c.requires) (omega arith) ∙ tab-getD c.args.v.now (pos 0)
