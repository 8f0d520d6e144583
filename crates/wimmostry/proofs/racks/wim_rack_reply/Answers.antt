-- `wimmostry::racks::wim_rack_reply` meets its contract: its numbers are the answer's.
use Rattle.lists.proofs.Kit.{rules}
use Rattle.wimmostry.proofs.racks.wim_rack_reply.Goals as goal

pub returns : goal.returns
returns c = rw c.tell_reply.ensures (search rules)
