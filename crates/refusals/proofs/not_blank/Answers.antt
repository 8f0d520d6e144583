-- `refusals::not_blank` meets its contract.
use Rattle.lists.proofs.Kit.{sym, ◌∙◌}
use Rattle.refusals.proofs.{Laws.blank-fails, Laws.not-blank-passes}
use Rattle.refusals.proofs.not_blank.Goals as goal

pub returns-then-numbers : goal.returns-then-numbers
returns-then-numbers c =
    sym (blank-fails _ (sym c.numbers.ensures ∙ c.if-numbers.true))

pub returns-else-numbers : goal.returns-else-numbers
returns-else-numbers c =
    sym (not-blank-passes _ (sym c.numbers.ensures ∙ c.if-numbers.false))
