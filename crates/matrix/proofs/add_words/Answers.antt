-- `matrix::add_words` meets its contract: it fills with each sum and its word.
use Rattle.lists.proofs.Kit.{◌∙◌, ap, ℕ, ◌+◌, ◌%◌, arith, mul-one, get_or}
use Rattle.lists.proofs.Fill.{fill_start, fill-next, fill-old}
use Rattle.matrix.proofs.add_words.Goals as goal

pub loop-k-preserved : goal.loop-k-preserved
loop-k-preserved c =
    let l = c.loop-k in
    let e = ap (λ (x : ℕ). (get_or c.args.sums.now l.k 0 + x) % 65536) (mul-one (get_or c.args.ws.now l.k 0)) in
    fill-next _ l.invariant (omega arith) (rw (fill-old 0 l.invariant) at c.add_product.ensures ∙ e)

pub loop-k-init : goal.loop-k-init
loop-k-init c = fill_start _ _
