-- `halves::subtract` meets its contract.
use Rattle.lists.proofs.Kit.{◌∙◌, ap, ap₂, ℕ, ◌+◌, ◌-◌, ◌%◌, arith, get_or}
use Rattle.lists.proofs.Stored.{store-next, not_yet}
use Rattle.halves.specs.{Halves.q, Steps.from}
use Rattle.halves.proofs.{Stores.read-ahead}
use Rattle.halves.proofs.subtract.Goals as goal

pub loop-i-preserved : goal.loop-i-preserved
loop-i-preserved c =
    let o = c.loop-i.invariant in
    let i = c.loop-i.i in
    let w = c.loop-i.w in
    store-next o (omega arith)
    (c.less_both.ensures
    ∙ ap (λ (m : ℕ). (m + (q - get_or w (c.args.x + i) 0) + (q - get_or w (c.args.y + i) 0)) % q) (not_yet o)
    ∙ ap₂ (λ (x y : ℕ). (from c.args.w.now c.args.to i + (q - x) + (q - y)) % q)
    (read-ahead o c.requires.ahead.0 (omega arith))
    (read-ahead o c.requires.ahead.1 (omega arith)))
