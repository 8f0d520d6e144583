-- `wimmostry::drawn::wim_session_open` meets its contract: its numbers are the answer's.
use Rattle.lists.proofs.Kit.{rules}
use Rattle.wimmostry.proofs.drawn.wim_session_open.Goals as goal

pub returns : goal.returns
returns c = rw c.tell_open.ensures c.open-answer.ensures
