-- `rows_state::part::put_right` meets its contract: the sums, back in their place.
use Rattle.lists.proofs.Kit.{rules}
use Rattle.rows_state.proofs.{Taking.back-right}
use Rattle.rows_state.proofs.part.put_right.Goals as goal

pub returns : goal.returns
returns c =
    back-right c.args.n c.args.state.now c.requires.0 c.args.row c.requires.1 _ _ (record { below = λ i. search rules })
    c.sums_right.ensures c.pair.ensures
