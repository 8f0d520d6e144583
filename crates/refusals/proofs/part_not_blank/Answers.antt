-- `refusals::part_not_blank` meets its contract.
use Rattle.lists.proofs.Kit.{sym, ◌∙◌}
use Rattle.refusals.proofs.{Laws.blank-fails, Laws.not-blank-passes}
use Rattle.refusals.proofs.part_not_blank.Goals as goal

pub returns-then-bytes : goal.returns-then-bytes
returns-then-bytes c =
    sym (blank-fails _ (sym c.bytes.ensures ∙ c.if-bytes.true))

pub returns-else-bytes : goal.returns-else-bytes
returns-else-bytes c =
    sym (not-blank-passes _ (sym c.bytes.ensures ∙ c.if-bytes.false))
