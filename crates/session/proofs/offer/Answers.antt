-- `session::offer` meets its contract: 10, a refusal of the call beneath, or its answer.
use Rattle.lists.proofs.Kit.{rules}
use Rattle.session.specs.Table.{row}
use Rattle.session.proofs.{Laws.bars, Laws.allows, Laws.turned, Laws.offer-stops, Laws.offer-refused, Laws.offer-done}
use Rattle.session.proofs.offer.Goals as goal

pub returns-then-not-is_idle : goal.returns-then-not-is_idle
returns-then-not-is_idle c = unfold row in search (rules, turned, bars, offer-stops)

pub returns-in_default : goal.returns-in_default
returns-in_default c = search (rules, offer-refused, allows)

pub returns : goal.returns
returns c = search (rules, offer-done, allows)
