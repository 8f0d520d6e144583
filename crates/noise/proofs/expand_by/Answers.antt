-- `noise::expand_by` meets its contract: its loop stores each word's number, and counts those that the rule takes.
use Rattle.lists.proofs.Kit.{◌∙◌, sym, ap, inl, inr, arith}
use Rattle.noise.specs.Expand.{rule}
use Rattle.noise.proofs.{Stream.store-none, Stream.store-more, Stream.store-end}
use Rattle.noise.proofs.expand_by.Goals as goal

pub loop-i-init : goal.loop-i-init
loop-i-init c = store-none _ _ _

pub loop-i-preserved : goal.loop-i-preserved
loop-i-preserved c =
    let by = rule c.args.name in
    let e = c.word-w.ensures in
    store-more
    c.loop-i.invariant
    _
    _
    (omega (arith, c.trimmed-words.ensures.within))
    (omega (arith, c.loop-i.invariant.back.few))
    (omega (arith, c.loop-i.invariant.back.few, c.requires))
    (sym (c.takes.ensures ∙ ap by.takes e))
    (c.gives.ensures ∙ ap by.gives e)

pub returns-then-n-ge1024 : goal.returns-then-n-ge1024
returns-then-n-ge1024 c =
    let e = store-end c.loop-i.invariant c.trimmed-words.ensures (omega arith) c.requires (inr (omega arith)) in
    record { value = e.0; out_after = e.1 }

pub returns-after-loop-i : goal.returns-after-loop-i
returns-after-loop-i c =
    let e = store-end c.loop-i.invariant c.trimmed-words.ensures (omega arith) c.requires (inl (omega arith)) in
    record { value = e.0; out_after = e.1 }
