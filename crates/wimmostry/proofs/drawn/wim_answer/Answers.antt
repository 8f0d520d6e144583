-- `wimmostry::drawn::wim_answer` meets its contract: its numbers are the answer's.
use Rattle.lists.proofs.Kit.{rules}
use Rattle.wimmostry.proofs.drawn.wim_answer.Goals as goal

pub returns : goal.returns
returns c = rw c.tell_reply.ensures c.answer-answer.ensures
