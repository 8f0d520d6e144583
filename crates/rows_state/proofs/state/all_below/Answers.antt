-- `rows_state::state::all_below` meets its contract: it finds none.
use Rattle.rows_state.specs.State.{all_below}
use Rattle.rows_state.proofs.state.all_below.Goals as goal

pub returns : goal.returns
returns c = unfold all_below in rw c.first_over.ensures
