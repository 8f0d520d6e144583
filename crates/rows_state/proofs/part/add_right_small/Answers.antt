-- `rows_state::part::add_right_small` meets its contract: it lends room for the words.
use Rattle.lists.proofs.Kit.{sym, ℕ, arith, length-replicate}
use Rattle.std.proofs.Common.{◌*◌, ◌≤◌}
use Rattle.lists.proofs.Parts.{buffer-long}
use Rattle.rows_state.proofs.part.add_right_small.Goals as goal
use Rattle.rows_state.proofs.part.add_right_small.Goals.{Start}

few : (s : Start) → 8 * s.args.n ≤ 2820
few s = omega (arith, s.requires.2)

pub put_right-requires : goal.put_right-requires
put_right-requires c =
    (c.requires.0, c.requires.1, buffer-long c.args.n 352 c.requires.2, buffer-long (8 * c.args.n) 2820 (few (goal.at.put_right-requires c).Start), length-replicate {A = ℕ} 128 0)

pub slice_bounds-line-end : goal.slice_bounds-line-end
slice_bounds-line-end c = c.requires.2

pub slice_bounds-put_right-end : goal.slice_bounds-put_right-end
slice_bounds-put_right-end c = sym (buffer-long c.args.n 352 c.requires.2)

pub slice_bounds-cols-end : goal.slice_bounds-cols-end
slice_bounds-cols-end c = few (goal.at.slice_bounds-cols-end c).Start

pub slice_bounds-put_right-end-2 : goal.slice_bounds-put_right-end-2
slice_bounds-put_right-end-2 c = sym (buffer-long (8 * c.args.n) 2820 (few (goal.at.slice_bounds-put_right-end-2 c).Start))

pub returns : goal.returns
returns c = c.put_right.ensures
