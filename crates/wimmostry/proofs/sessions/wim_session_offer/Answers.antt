-- `wimmostry::sessions::wim_session_offer` meets its contract: its numbers are the answer's.
use Rattle.lists.proofs.Kit.{rules}
use Rattle.wimmostry.proofs.sessions.wim_session_offer.Goals as goal

pub returns : goal.returns
returns c = rw c.tell.ensures (search rules)
