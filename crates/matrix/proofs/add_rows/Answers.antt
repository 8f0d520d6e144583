-- `matrix::add_rows` meets its contract: it fills with each sum and its products.
use Rattle.lists.proofs.Kit.{arith}
use Rattle.lists.proofs.Fill.{fill_start, fill-next, fill_end, fill-old}
use Rattle.matrix.specs.{Steps.block_gained, Words.gained}
use Rattle.matrix.proofs.add_rows.Goals as goal

pub loop-j-preserved : goal.loop-j-preserved
loop-j-preserved c =
    fill-next _ c.loop-j.invariant (omega arith) (rw (fill-old 0 c.loop-j.invariant) at c.weigh.ensures)

pub returns : goal.returns
unfolding gained block_gained
returns c = fill_end c.loop-j.invariant (omega arith)

pub loop-j-init : goal.loop-j-init
loop-j-init c = fill_start _ _
