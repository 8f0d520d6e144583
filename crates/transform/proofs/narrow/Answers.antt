-- `transform::narrow` meets its contract: it fills with the entries.
use Rattle.lists.proofs.Kit.{refl, ◌∙◌, sym, arith}
use Rattle.lists.proofs.{Entries.tab-getD, Fill.fill_start, Fill.fill-next, Fill.fill-whole}
use Rattle.transform.proofs.narrow.Goals as goal

pub loop-k-preserved : goal.loop-k-preserved
loop-k-preserved c = fill-next _ c.loop-k.invariant (omega arith) refl

pub returns : goal.returns
returns c =
    fill-whole c.loop-k.invariant (c.requires.2 ∙ sym c.requires.1) (omega arith) ∙ tab-getD _ 0

pub loop-k-init : goal.loop-k-init
loop-k-init c = fill_start _ _
