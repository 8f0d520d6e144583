-- `session::close` meets its contract.
use Rattle.lists.proofs.Kit.{rules}
use Rattle.session.proofs.{Laws.close-moves}
use Rattle.session.proofs.close.Goals as goal

pub returns : goal.returns
returns c = search (rules, close-moves)
