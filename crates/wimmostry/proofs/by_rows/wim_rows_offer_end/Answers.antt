-- `wimmostry::by_rows::wim_rows_offer_end` meets its contract: its numbers are the answer's.
use Rattle.lists.proofs.Kit.{rules}
use Rattle.wimmostry.proofs.by_rows.wim_rows_offer_end.Goals as goal

pub returns : goal.returns
returns c = rw c.tell.ensures (search rules)
