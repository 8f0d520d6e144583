-- `transform::on_transforms::weigh` meets its contract: it fills with the products.
use Rattle.lists.proofs.Kit.{ap, ℕ, ◌*◌, ◌%◌, arith, get_or}
use Rattle.lists.proofs.Fill.{fill_start, fill-next, fill-old, fill-whole}
use Rattle.transform.specs.Theorems.{entrywise}
use Rattle.transform.proofs.{Joins.product-fits}
use Rattle.transform.proofs.on_transforms.weigh.Goals as goal

pub overflow_mul-z : goal.overflow_mul-z
overflow_mul-z c =
    let l = c.loop-k in
    record { fits = product-fits _ _ (c.requires.1.below l.k) (rw (fill-old 0 l.invariant) (omega (arith, c.requires.3.below l.k))) }

pub loop-k-preserved : goal.loop-k-preserved
loop-k-preserved c =
    let l = c.loop-k in
    fill-next _ l.invariant (omega arith) (ap (λ (y : ℕ). get_or c.args.u.now l.k 0 * y % 12289) (fill-old 0 l.invariant))

pub returns : goal.returns
unfolding entrywise
returns c = fill-whole c.loop-k.invariant c.requires.2 (omega arith)

pub loop-k-init : goal.loop-k-init
loop-k-init c = fill_start _ _
