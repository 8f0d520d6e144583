-- `matrix::add_products` meets its contract: it fills with each sum and its product.
use Rattle.lists.proofs.Kit.{arith}
use Rattle.lists.proofs.Fill.{fill_start, fill-next, fill-old}
use Rattle.matrix.proofs.add_products.Goals as goal

pub loop-j-preserved : goal.loop-j-preserved
loop-j-preserved c =
    fill-next _ c.loop-j.invariant (omega arith) (rw (fill-old 0 c.loop-j.invariant) at c.add_product.ensures)

pub loop-j-init : goal.loop-j-init
loop-j-init c = fill_start _ _
