-- `wimmostry::wim_grow` meets its contract: its numbers are the answer's.
use Rattle.lists.proofs.Kit.{rules}
use Rattle.wimmostry.proofs.wim_grow.Goals as goal

pub returns : goal.returns
returns c = rw c.tell.ensures (search rules)
