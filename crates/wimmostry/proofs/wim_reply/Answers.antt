-- `wimmostry::wim_reply` meets its contract: its numbers are the answer's.
use Rattle.lists.proofs.Kit.{rules}
use Rattle.wimmostry.proofs.wim_reply.Goals as goal

pub returns : goal.returns
returns c = rw c.tell_reply.ensures (search rules)
