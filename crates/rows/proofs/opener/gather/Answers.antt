-- `rows::opener::gather` meets its contract: it fills with the entries of the source.
use Rattle.lists.proofs.Kit.{refl, ◌∙◌, ap, ℕ, arith, get_or}
use Rattle.lists.specs.Entries.{tab}
use Rattle.lists.proofs.{Entries.tab-getD, Fill.fill_start, Fill.fill-next, Fill.fill_end}
use Rattle.rows.proofs.opener.gather.Goals as goal

pub loop-k-init : goal.loop-k-init
loop-k-init c = fill_start _ _

pub overflow_cast-out : goal.overflow_cast-out
overflow_cast-out c = record { fits = c.requires.1.below c.loop-k.k }

pub loop-k-preserved : goal.loop-k-preserved
loop-k-preserved c = fill-next _ c.loop-k.invariant (omega arith) refl

pub shape_of-out : goal.shape_of-out
shape_of-out c = c.loop-k.invariant.long

pub returns : goal.returns
returns c =
    let a = c.args in
    fill_end c.loop-k.invariant (omega arith)
    ∙ ap (λ (n : ℕ). tab n (λ i. get_or a.xs.now i 0)) (omega arith)
    ∙ tab-getD a.xs.now 0
