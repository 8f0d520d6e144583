-- `refusals::publics_in` meets its contract.
use Rattle.refusals.proofs.publics_in.Goals as goal

pub returns : goal.returns
returns c = c.publics_at.ensures _ c.first_over.ensures
