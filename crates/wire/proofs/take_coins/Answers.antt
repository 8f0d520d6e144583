-- `wire::take_coins` meets its contract: numbers of no bits are zeros.
use Rattle.lists.proofs.Kit.{sym, ap, ◌∙◌, ℕ, length}
use Rattle.packing.specs.Packing.{unpacked}
use Rattle.packing.proofs.Laws.{no_bits}
use Rattle.wire.proofs.{Places.coins-of}
use Rattle.wire.proofs.take_coins.Goals as goal

pub returns-then-w-eq0 : goal.returns-then-w-eq0
returns-then-w-eq0 c =
    let n = length c.args.coins.now in
    let none = sym (no_bits n c.args.bytes.now) ∙ ap (λ (w : ℕ). unpacked w n c.args.bytes.now) (sym c.if-w-eq0.true) in
    c.fill.ensures.after (λ y e. e) ∙ none ∙ coins-of c.args.scheme c.fixed-f.ensures c.requires.1 c.args.bytes.now

pub returns-else-w-eq0 : goal.returns-else-w-eq0
returns-else-w-eq0 c =
    c.unpack.ensures ∙ coins-of c.args.scheme c.fixed-f.ensures c.requires.1 c.args.bytes.now
