-- `transform::on_transforms::combine` meets its contract: it fills with the sums.
use Rattle.lists.proofs.Kit.{refl, ◌∙◌, arith}
use Rattle.lists.proofs.Fill.{fill_start, fill-next, fill-whole}
use Rattle.transform.proofs.{Entrywise.combined}
use Rattle.transform.proofs.on_transforms.combine.Goals as goal

pub loop-k-preserved : goal.loop-k-preserved
loop-k-preserved c = fill-next _ c.loop-k.invariant (omega arith) refl

pub returns : goal.returns
returns c = fill-whole c.loop-k.invariant c.requires.a_len.2 (omega arith) ∙ combined _ _ _

pub loop-k-init : goal.loop-k-init
loop-k-init c = fill_start _ _
