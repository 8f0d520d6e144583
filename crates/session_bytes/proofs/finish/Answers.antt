-- `session_bytes::finish` meets its contract: a buffer in no stage, or the call by value.
use Rattle.lists.proofs.Kit.{rules}
use Rattle.session.proofs.Laws.{finish-stops}
use Rattle.session_bytes.proofs.{Calls.long, Calls.stopped, Calls.found}
use Rattle.session_bytes.proofs.finish.Goals as goal

pub returns-in_default : goal.returns-in_default
returns-in_default c = search (rules, stopped, finish-stops)

pub key_of-held-requires : goal.key_of-held-requires
key_of-held-requires c = search (rules, long)

pub lay_out-requires : goal.lay_out-requires
lay_out-requires c = search (rules, long)

pub returns : goal.returns
returns c = search (rules, found)
