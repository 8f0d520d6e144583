-- `rows_state::part::sums_right` meets its contract: words, then the products.
use Rattle.rows_state.proofs.{Taking.right-made}
use Rattle.rows_state.proofs.part.sums_right.Goals as goal

pub returns : goal.returns
returns c =
    right-made c.args.n c.args.state.now c.requires.0 c.args.row c.requires.1 c.unpair.ensures c.unpair-2.ensures c.add_rows.ensures
