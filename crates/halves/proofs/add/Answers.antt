-- `halves::add` meets its contract.
use Rattle.lists.proofs.Kit.{◌∙◌, ap₂, ℕ, ◌+◌, ◌%◌, arith}
use Rattle.lists.proofs.Stored.{store-next}
use Rattle.halves.specs.{Halves.q}
use Rattle.halves.proofs.{Stores.read-ahead}
use Rattle.halves.proofs.add.Goals as goal

pub loop-i-preserved : goal.loop-i-preserved
loop-i-preserved c =
    let o = c.loop-i.invariant in
    store-next o (omega arith)
    (c.plus.ensures ∙ ap₂ (λ (x y : ℕ). (x + y) % q) (read-ahead o c.requires.ahead.0 (omega arith)) (read-ahead o c.requires.ahead.1 (omega arith)))
