-- `wire::take_hints` meets its contract.
use Rattle.lists.proofs.Kit.{◌∙◌}
use Rattle.wire.proofs.{Places.hints-of}
use Rattle.wire.proofs.take_hints.Goals as goal

pub returns : goal.returns
returns c =
    c.unpack.ensures ∙ hints-of c.args.scheme c.fixed-f.ensures c.requires.1 c.args.reply.now c.requires.0
