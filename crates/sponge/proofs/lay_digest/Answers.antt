-- `sponge::lay_digest` meets its contract.
use Rattle.lists.proofs.Kit.{sym, ap, List, drop}
use Rattle.std.proofs.Common.{◌++◌}
use Rattle.lists.proofs.Parts.{front_long}
use Rattle.sponge.proofs.lay_digest.Goals as goal

pub slice_bounds-sha3_256-end : goal.slice_bounds-sha3_256-end
slice_bounds-sha3_256-end c = c.requires

pub slice_bounds-sha3_256-end-2 : goal.slice_bounds-sha3_256-end-2
slice_bounds-sha3_256-end-2 c = sym (front_long 32 c.args.digest.now c.requires)

pub sha3_256-requires : goal.sha3_256-requires
sha3_256-requires c = front_long 32 c.args.digest.now c.requires

pub returns : goal.returns
returns c =
    ap (λ (xs : List _). xs ++ drop 32 c.args.digest.now) c.sha3_256.ensures
