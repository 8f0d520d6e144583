-- `wire::lay_opening` meets its contract: the numbers in their part, then the seed in its own.
use Rattle.wire.proofs.Places.{laid}
use Rattle.wire.proofs.lay_opening.Goals as goal

pub returns : goal.returns
returns c =
    laid c.args.scheme c.fixed-f.ensures c.opening_starts-start.ensures.0 c.opening_starts-start.ensures.1 c.args.out.now c.args.numbers.now c.args.seed.now c.pack.ensures c.copy_from_slice.ensures.after c.requires.counted c.requires.seed_len.0 c.requires.seed_len.1
