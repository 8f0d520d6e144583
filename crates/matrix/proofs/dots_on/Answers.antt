-- `matrix::dots_on` meets its contract: after t numbers of the row each sum has gained t products.
use Rattle.lists.proofs.Kit.{sym, arith}
use Rattle.matrix.specs.{Steps.dot_term}
use Rattle.matrix.proofs.{Steps.gained-none, Steps.gained-next}
use Rattle.matrix.proofs.dots_on.Goals as goal

pub loop-t-init : goal.loop-t-init
loop-t-init c = sym (gained-none 65536 _ _ (λ k. omega (arith, c.type_inv.sums k)))

pub loop-t-preserved : goal.loop-t-preserved
unfolding dot_term
loop-t-preserved c =
    gained-next 65536 c.loop-t.t 8 (dot_term c.args.n c.args.row.now c.args.cols.now) _ c.requires.2 c.loop-t.invariant c.add_products.ensures
