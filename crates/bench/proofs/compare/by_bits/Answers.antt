-- `bench::compare::by_bits` meets its contract: the bits of each key, and where they differ first.
use Rattle.lists.proofs.Kit.{◌∙◌, ap, ap₂, arith, length}
use Rattle.lists.specs.First.{first_apart_lem}
use Rattle.packing.proofs.Laws.{unpacked-length}
use Rattle.bench.proofs.{Comparing.told-apart, Comparing.told_same}
use Rattle.bench.proofs.compare.by_bits.Goals as goal

pub returns-then-i-x : goal.returns-then-i-x
returns-then-i-x c =
    let a = c.args in
    told-apart a.own.now a.peer.now a.x.now a.y.now _ c.requires.1 c.requires.2
    (c.first_apart-i.ensures ∙ ap₂ first_apart_lem c.unpack.ensures c.unpack-2.ensures) a.slack
    (omega (arith, c.if-i-x.true, ap length c.unpack.ensures ∙ unpacked-length 1 (length a.x.now) a.own.now))

pub returns-else-i-x : goal.returns-else-i-x
returns-else-i-x c =
    let a = c.args in
    told_same a.own.now a.peer.now a.x.now a.y.now _ c.requires.1 c.requires.2
    (c.first_apart-i.ensures ∙ ap₂ first_apart_lem c.unpack.ensures c.unpack-2.ensures) a.slack
    (omega (arith, c.if-i-x.false, ap length c.unpack.ensures ∙ unpacked-length 1 (length a.x.now) a.own.now))
