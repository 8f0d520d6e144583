-- `session_bytes::close` meets its contract.
use Rattle.lists.proofs.Kit.{rules}
use Rattle.session_bytes.proofs.{Calls.close-bytes}
use Rattle.session_bytes.proofs.close.Goals as goal

pub returns : goal.returns
returns c = search (rules, close-bytes)
