-- `rows_state::state::lay_words` meets its contract: it lends room for the words.
use Rattle.lists.proofs.Kit.{sym, arith}
use Rattle.std.proofs.Common.{◌*◌, ◌≤◌}
use Rattle.lists.proofs.Parts.{buffer-long}
use Rattle.rows_state.proofs.state.lay_words.Goals as goal
use Rattle.rows_state.proofs.state.lay_words.Goals.{Start}

few : (s : Start) → 8 * s.args.n ≤ 6912
few s = omega (arith, s.requires.1)

pub words_on-requires : goal.words_on-requires
words_on-requires c =
    record { n_nonzero = c.requires; secret_len = (buffer-long (8 * c.args.n) 6912 (few (goal.at.words_on-requires c).Start), buffer-long (8 * c.args.n) 6912 (few (goal.at.words_on-requires c).Start)) }

pub slice_bounds-secret-end : goal.slice_bounds-secret-end
slice_bounds-secret-end c = few (goal.at.slice_bounds-secret-end c).Start

pub slice_bounds-words_on-end : goal.slice_bounds-words_on-end
slice_bounds-words_on-end c = sym (buffer-long (8 * c.args.n) 6912 (few (goal.at.slice_bounds-words_on-end c).Start))

pub slice_bounds-noise-end : goal.slice_bounds-noise-end
slice_bounds-noise-end c = few (goal.at.slice_bounds-noise-end c).Start

pub slice_bounds-words_on-end-2 : goal.slice_bounds-words_on-end-2
slice_bounds-words_on-end-2 c = sym (buffer-long (8 * c.args.n) 6912 (few (goal.at.slice_bounds-words_on-end-2 c).Start))

pub returns : goal.returns
returns c = c.words_on.ensures
