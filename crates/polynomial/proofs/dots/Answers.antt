-- `polynomial::dots` meets its contract.
use Rattle.lists.proofs.Kit.{◌∙◌, arith}
use Rattle.numbers.proofs.Machine.{wide}
use Rattle.lists.proofs.{Stored.store-next}
use Rattle.polynomial.proofs.{Level.dot-pair, Level.dot-part}
use Rattle.polynomial.proofs.dots.Goals as goal

pub dot_product-requires : goal.dot_product-requires
dot_product-requires c = dot-pair c.requires.0 c.loop-k.k (omega arith)

pub loop-k-preserved : goal.loop-k-preserved
loop-k-preserved c = let o = c.loop-k.invariant in
    store-next o (omega arith) (wide c.dot_product.result (record { sfits = c.dot_product.type_inv }) ∙ c.dot_product.ensures ∙ dot-part c.requires.0 c.loop-k.k (omega arith))
