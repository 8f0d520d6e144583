-- `transform::product` meets its contract.
use Rattle.lists.proofs.Kit.{◌∙◌, ap, ap₂, length}
use Rattle.transform.specs.{Transform.inverted, Theorems.entrywise}
use Rattle.transform.proofs.Sizes.{transformed-length, transformed-below, entrywise-length, entrywise-below}
use Rattle.transform.proofs.{Products.multiplied-through, Entrywise.turned_round}
use Rattle.transform.proofs.product.Goals as goal

pub weigh-requires : goal.weigh-requires
weigh-requires c =
    let e = c.ahead.ensures in
    let f = c.ahead-2.ensures in
    (ap length f ∙ transformed-length _, rw f (transformed-below _), ap length e ∙ transformed-length _, rw e (transformed-below _))

pub back-requires : goal.back-requires
back-requires c =
    let e = c.weigh.ensures in
    (rw e (entrywise-below _ _), ap length e ∙ entrywise-length _ _)

pub returns : goal.returns
returns c =
    let e = c.ahead.ensures in
    let f = c.ahead-2.ensures in
    record { a_after = c.back.ensures ∙ ap inverted (c.weigh.ensures ∙ ap₂ entrywise f e ∙ turned_round _ _) ∙ multiplied-through _ _; b_after = f }
