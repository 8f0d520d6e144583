-- `rows_state::state::lay_pairs` meets its contract: one behind the other.
use Rattle.lists.proofs.Kit.{◌∙◌, sym, ap, arith, length, length-append, length-drop, length-take}
use Rattle.std.proofs.Common.{◌≡◌, ◌*◌}
use Rattle.lists.proofs.{Parts.front_long, Same.zeros-long}
use Rattle.parts.proofs.Words.{pairs-long}
use Rattle.rows_state.proofs.{Laying.pairs-laid}
use Rattle.rows_state.proofs.state.lay_pairs.Goals as goal
use Rattle.rows_state.proofs.state.lay_pairs.Goals.{Start}

out-long : (s : Start) → length s.args.out.now ≡ 16 * s.args.n
out-long s = zeros-long (16 * s.args.n) 0 s.requires.3

pub slice_bounds-pair-end-2 : goal.slice_bounds-pair-end-2
slice_bounds-pair-end-2 c = sym (front_long (4 * c.args.n) c.args.out.now (omega (arith, out-long (goal.at.slice_bounds-pair-end-2 c).Start)))

pub pair-requires : goal.pair-requires
pair-requires c =
    omega (arith, c.requires.1, front_long (4 * c.args.n) c.args.out.now (omega (arith, out-long (goal.at.pair-requires c).Start)))

pub slice_bounds-pair-end : goal.slice_bounds-pair-end
slice_bounds-pair-end c = omega (arith, out-long (goal.at.slice_bounds-pair-end c).Start)

pub pair-requires-2 : goal.pair-requires-2
pair-requires-2 c =
    simp (length-take, length-drop, length-append)
    (omega (arith, c.requires.2, out-long (goal.at.pair-requires-2 c).Start, ap length c.pair.ensures ∙ pairs-long c.args.secret.now (4 * c.args.n) (c.requires.1 ∙ omega arith)))

pub shape_of-out : goal.shape_of-out
shape_of-out c =
    simp (length-append, length-take, length-drop)
    (omega (
      arith,
      out-long (goal.at.shape_of-out c).Start,
      ap length c.pair.ensures ∙ pairs-long c.args.secret.now (4 * c.args.n) (c.requires.1 ∙ omega arith),
      ap length c.pair-2.ensures ∙ pairs-long c.args.noise.now (4 * c.args.n) (c.requires.2 ∙ omega arith),
    ))

pub returns : goal.returns
returns c =
    pairs-laid c.args.n c.args.secret.now c.args.noise.now c.args.out.now _ _ c.requires.1 c.requires.3 c.pair.ensures c.pair-2.ensures
