-- `rows::opener::lay_seed` meets its contract: zeros, of which 16 are written.
use Rattle.lists.proofs.Kit.{◌∙◌, sym, ap₂, List, ℕ, arith, drop}
use Rattle.std.proofs.Common.{◌++◌}
use Rattle.lists.proofs.{Parts.front_long, Same.zeros-long}
use Rattle.rows.proofs.opener.lay_seed.Goals as goal

pub slice_bounds-spread-end : goal.slice_bounds-spread-end
slice_bounds-spread-end c = omega (arith, zeros-long 64 0 c.requires.1)

pub slice_bounds-spread-end-2 : goal.slice_bounds-spread-end-2
slice_bounds-spread-end-2 c = sym (front_long 16 c.args.kept.now (omega (arith, zeros-long 64 0 c.requires.1)))

pub spread-requires : goal.spread-requires
spread-requires c =
    c.requires.0 ∙ sym (front_long 16 c.args.kept.now (omega (arith, zeros-long 64 0 c.requires.1)))

pub returns : goal.returns
returns c =
    ap₂ (λ (u v : List ℕ). u ++ drop 16 v) c.spread.ensures c.requires.1
