-- `wimmostry::wim_shake128` meets its contract: its numbers are the answer's.
use Rattle.lists.proofs.Kit.{rules}
use Rattle.wimmostry.proofs.wim_shake128.Goals as goal

pub returns : goal.returns
returns c = rw c.tell.ensures (search rules)
