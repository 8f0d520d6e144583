-- `rows_state::part::put_left` meets its contract: the sums, back in their place.
use Rattle.rows_state.proofs.{Taking.back-left}
use Rattle.rows_state.proofs.part.put_left.Goals as goal

pub returns : goal.returns
returns c =
    back-left c.args.n c.args.state.now c.requires.0 c.args.row c.requires.1 _ _ c.sums_left.ensures c.pair.ensures
