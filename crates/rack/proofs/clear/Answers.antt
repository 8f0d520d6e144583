-- `rack::clear` meets its contract.
use Rattle.lists.proofs.Kit.{rules}
use Rattle.rack.proofs.{Calls.clear-not, Calls.clear-done}
use Rattle.rack.proofs.clear.Goals as goal

pub returns-then-bytes-ne1048 : goal.returns-then-bytes-ne1048
returns-then-bytes-ne1048 c = search (rules, clear-not)

pub returns : goal.returns
returns c = search (rules, clear-done)
