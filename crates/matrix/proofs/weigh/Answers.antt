-- `matrix::weigh` meets its contract: after u rows the sum has gained u products.
use Rattle.lists.proofs.Kit.{◌∙◌, ap₂, ℕ, ◌+◌, ◌*◌, ◌%◌, arith, get_or}
use Rattle.numbers.specs.Sum.{sum}
use Rattle.matrix.specs.Steps.{block_term}
use Rattle.matrix.proofs.{Steps.gain-next}
use Rattle.matrix.proofs.weigh.Goals as goal

pub loop-u-preserved : goal.loop-u-preserved
unfolding block_term
loop-u-preserved c =
    let a = c.args in
    c.add_product-sum.ensures
    ∙ ap₂ (λ (s x : ℕ). (s + x * get_or a.w.now c.loop-u.u 0) % 65536) c.loop-u.invariant c.number_at.ensures
    ∙ gain-next 65536 c.loop-u.u a.start (block_term a.c a.w.now a.y.now a.j)

pub loop-u-init : goal.loop-u-init
loop-u-init c = unfold sum in omega arith
