-- `rows_state::part::sums_left` meets its contract: words, then the products.
use Rattle.rows_state.proofs.{Taking.left-made}
use Rattle.rows_state.proofs.part.sums_left.Goals as goal

pub returns : goal.returns
returns c =
    left-made c.args.n c.args.state.now c.requires.0 c.args.row c.requires.1 c.requires.2 c.some_columns.ensures c.unpair.ensures c.add_left.ensures
