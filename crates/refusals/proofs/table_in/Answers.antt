-- `refusals::table_in` meets its contract.
use Rattle.lists.proofs.Kit.{lt-ltb, le-ltb}
use Rattle.refusals.specs.Refusals.{table_in_lem}
use Rattle.refusals.proofs.table_in.Goals as goal

pub returns-then-at-n : goal.returns-then-at-n
returns-then-at-n c = unfold table_in_lem in rw (lt-ltb _ _ c.if-at-n.true)

pub returns-else-at-n : goal.returns-else-at-n
returns-else-at-n c = unfold table_in_lem in rw (le-ltb _ _ c.if-at-n.false)
