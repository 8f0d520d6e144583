-- `rows_state::part::add_right` meets its contract: it lends room for the words.
use Rattle.lists.proofs.Kit.{sym, ℕ, arith, length-replicate}
use Rattle.std.proofs.Common.{◌*◌, ◌≤◌}
use Rattle.lists.proofs.Parts.{buffer-long}
use Rattle.rows_state.proofs.part.add_right.Goals as goal
use Rattle.rows_state.proofs.part.add_right.Goals.{Start}

few : (s : Start) → 8 * s.args.n ≤ 6916
few s = omega (arith, s.requires.0.few)

pub put_right-requires : goal.put_right-requires
put_right-requires c =
    (c.requires.0, c.requires.1, buffer-long c.args.n 864 c.requires.0.few, buffer-long (8 * c.args.n) 6916 (few (goal.at.put_right-requires c).Start), length-replicate {A = ℕ} 128 0)

pub add_right_small-requires : goal.add_right_small-requires
add_right_small-requires c = (c.requires.0, c.requires.1, c.if-n-le352.true)

pub returns-then-n-le352 : goal.returns-then-n-le352
returns-then-n-le352 c = c.add_right_small.ensures

pub slice_bounds-line-end : goal.slice_bounds-line-end
slice_bounds-line-end c = c.requires.0.few

pub slice_bounds-put_right-end : goal.slice_bounds-put_right-end
slice_bounds-put_right-end c = sym (buffer-long c.args.n 864 c.requires.0.few)

pub slice_bounds-cols-end : goal.slice_bounds-cols-end
slice_bounds-cols-end c = few (goal.at.slice_bounds-cols-end c).Start

pub slice_bounds-put_right-end-2 : goal.slice_bounds-put_right-end-2
slice_bounds-put_right-end-2 c = sym (buffer-long (8 * c.args.n) 6916 (few (goal.at.slice_bounds-put_right-end-2 c).Start))

pub returns : goal.returns
returns c = c.put_right.ensures
