-- `halves::product` meets its contract.
use Rattle.lists.proofs.Kit.{length, rules}
use Rattle.lists.proofs.Same.{zeros, zeros-long}
use Rattle.halves.proofs.{Multiplied.product-cleared}
use Rattle.halves.proofs.product.Goals as goal

pub product_in-r-requires : goal.product_in-r-requires
product_in-r-requires c =
    zeros (length c.args.out.now) 0 (c.fill.ensures.after (λ y e. e))

pub returns : goal.returns
returns c =
    product-cleared _ {l = length c.product_in-r.new.scratch} (zeros-long (length c.args.out.now) 0 (c.fill.ensures.after (λ y e. e))) c.product_in-r.ensures (c.fill-2.ensures.after (λ y e. e)) (search rules)
