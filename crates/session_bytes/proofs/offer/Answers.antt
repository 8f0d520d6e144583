-- `session_bytes::offer` meets its contract: a buffer in no stage, or the call by value.
use Rattle.lists.proofs.Kit.{rules}
use Rattle.session.proofs.Laws.{offer-stops}
use Rattle.session_bytes.proofs.{Calls.long, Calls.stopped, Calls.found}
use Rattle.session_bytes.proofs.offer.Goals as goal

pub returns-in_default : goal.returns-in_default
returns-in_default c = search (rules, stopped, offer-stops)

pub key_of-key-requires : goal.key_of-key-requires
key_of-key-requires c = search (rules, long)

pub lay_out-requires : goal.lay_out-requires
lay_out-requires c = search (rules, long)

pub returns : goal.returns
returns c = search (rules, found)
