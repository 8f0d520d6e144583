-- `rows_state::part::add_left` meets its contract: it lends room for the words.
use Rattle.lists.proofs.Kit.{sym, ℕ, arith, length-replicate}
use Rattle.std.proofs.Common.{◌*◌, ◌≤◌}
use Rattle.lists.proofs.Parts.{buffer-long}
use Rattle.rows_state.proofs.part.add_left.Goals as goal
use Rattle.rows_state.proofs.part.add_left.Goals.{Start}

few : (s : Start) → 8 * s.args.n ≤ 6916
few s = omega (arith, s.requires.0.few)

four : (s : Start) → 4 * s.args.n ≤ 3456
four s = omega (arith, s.requires.0.few)

pub put_left-requires : goal.put_left-requires
put_left-requires c =
    let b = buffer-long (8 * c.args.n) 6916 (few (goal.at.put_left-requires c).Start) in
    (c.requires.0, c.requires.1, c.requires.2, buffer-long (4 * c.args.n) 3456 (four (goal.at.put_left-requires c).Start), length-replicate {A = ℕ} 128 0, b)

pub slice_bounds-block-end : goal.slice_bounds-block-end
slice_bounds-block-end c = four (goal.at.slice_bounds-block-end c).Start

pub slice_bounds-put_left-end : goal.slice_bounds-put_left-end
slice_bounds-put_left-end c = sym (buffer-long (4 * c.args.n) 3456 (four (goal.at.slice_bounds-put_left-end c).Start))

pub slice_bounds-sums-end : goal.slice_bounds-sums-end
slice_bounds-sums-end c = few (goal.at.slice_bounds-sums-end c).Start

pub slice_bounds-put_left-end-3 : goal.slice_bounds-put_left-end-3
slice_bounds-put_left-end-3 c = sym (buffer-long (8 * c.args.n) 6916 (few (goal.at.slice_bounds-put_left-end-3 c).Start))

pub returns : goal.returns
returns c = c.put_left.ensures
