-- `wimmostry::wim_finish` meets its contract: its numbers are the answer's.
use Rattle.lists.proofs.Kit.{rules}
use Rattle.wimmostry.proofs.wim_finish.Goals as goal

pub returns : goal.returns
returns c = rw c.tell_finish.ensures (search rules)
