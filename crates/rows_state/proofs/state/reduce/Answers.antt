-- `rows_state::state::reduce` meets its contract: it lends room for the words.
use Rattle.lists.proofs.Kit.{sym, arith}
use Rattle.std.proofs.Common.{◌*◌, ◌≤◌}
use Rattle.lists.proofs.Parts.{buffer-long}
use Rattle.rows_state.proofs.state.reduce.Goals as goal
use Rattle.rows_state.proofs.state.reduce.Goals.{Start}

few : (s : Start) → 8 * s.args.n ≤ 6912
few s = omega (arith, s.requires.3)

pub reduce_on-requires : goal.reduce_on-requires
reduce_on-requires c =
    (c.requires.0, c.requires.1, c.requires.2, c.requires.3, c.requires.4, buffer-long (8 * c.args.n) 6912 (few (goal.at.reduce_on-requires c).Start), c.requires.5)

pub slice_bounds-sums-end : goal.slice_bounds-sums-end
slice_bounds-sums-end c = few (goal.at.slice_bounds-sums-end c).Start

pub slice_bounds-reduce_on-end : goal.slice_bounds-reduce_on-end
slice_bounds-reduce_on-end c = sym (buffer-long (8 * c.args.n) 6912 (few (goal.at.slice_bounds-reduce_on-end c).Start))

pub returns : goal.returns
returns c = c.reduce_on.ensures
