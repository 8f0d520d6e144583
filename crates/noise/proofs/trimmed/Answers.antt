-- `noise::trimmed` meets its contract: a word that is not taken is left out from the end, until one is.
use Rattle.lists.proofs.Kit.{◌∙◌, sym, ap, arith}
use Rattle.noise.specs.{Expand.rule}
use Rattle.noise.proofs.{Stream.trim-none, Stream.trim-less}
use Rattle.noise.proofs.trimmed.Goals as goal

pub loop-i-init : goal.loop-i-init
loop-i-init c = trim-none _ _

pub loop-i-preserved : goal.loop-i-preserved
loop-i-preserved c =
    let e = ap (rule c.args.name).takes c.word.ensures in
    trim-less _ _ _ (omega arith) (omega arith) (sym e ∙ sym c.takes.ensures ∙ c.if-takes.false) c.loop-i.invariant
