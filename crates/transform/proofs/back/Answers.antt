-- `transform::back` meets its contract.
use Rattle.lists.proofs.Kit.{◌∙◌, sym, ap, length}
use Rattle.transform.specs.Level.{scaled}
use Rattle.transform.proofs.{Sizes.sums-length, Sizes.sums-below, Inverses.inverted-scaled}
use Rattle.transform.proofs.back.Goals as goal

pub scale-requires : goal.scale-requires
scale-requires c =
    let e = c.sums.ensures in
    (rw e (sums-below 0 _), ap length e ∙ sums-length 0 _)

pub returns : goal.returns
returns c =
    c.scale.ensures ∙ ap scaled c.sums.ensures ∙ sym (inverted-scaled _)
