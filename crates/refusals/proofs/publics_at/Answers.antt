-- `refusals::publics_at` meets its contract.
use Rattle.refusals.proofs.{Laws.publics-over, Laws.publics-under}
use Rattle.refusals.proofs.publics_at.Goals as goal

pub returns-then-at-xs : goal.returns-then-at-xs
returns-then-at-xs c q e = publics-over q _ e c.if-at-xs.true

pub returns-else-at-xs : goal.returns-else-at-xs
returns-else-at-xs c q e = publics-under q _ e c.if-at-xs.false
