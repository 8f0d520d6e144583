-- `wimmostry::wim_expand` meets its contract: its numbers are the answer's.
use Rattle.lists.proofs.Kit.{rules}
use Rattle.wimmostry.proofs.wim_expand.Goals as goal

pub returns : goal.returns
returns c = rw c.tell.ensures (search rules)
