-- `session::finish` meets its contract: 10, a refusal of the call beneath, or its answer.
use Rattle.lists.proofs.Kit.{rules}
use Rattle.session.specs.Table.{row}
use Rattle.session.proofs.{Laws.bars, Laws.allows, Laws.turned, Laws.finish-stops, Laws.finish-refused, Laws.finish-done}
use Rattle.session.proofs.finish.Goals as goal

pub returns-then-not-awaits : goal.returns-then-not-awaits
returns-then-not-awaits c = unfold row in search (rules, turned, bars, finish-stops)

pub returns-in_default : goal.returns-in_default
returns-in_default c = search (rules, finish-refused, allows)

pub returns : goal.returns
returns c = search (rules, finish-done, allows)
