-- `text::field` meets its contract.
use Rattle.lists.proofs.Kit.{sym, ◌∙◌}
use Rattle.text.proofs.{Reading.label-room, Reading.label-found, Reading.label-other}
use Rattle.text.proofs.field.Goals as goal

pub number-requires : goal.number-requires
number-requires c =
    label-room c.args.label.now c.args.s.now c.args.at c.requires (sym c.if-begins_with.true ∙ c.begins_with.ensures)

pub returns-then-begins_with : goal.returns-then-begins_with
returns-then-begins_with c =
    label-found c.args.label.now c.args.s.now c.args.at c.requires
    (sym c.if-begins_with.true ∙ c.begins_with.ensures) c.number.ensures

pub returns-else-begins_with : goal.returns-else-begins_with
returns-else-begins_with c =
    label-other c.args.label.now c.args.s.now c.args.at c.requires (sym c.if-begins_with.false ∙ c.begins_with.ensures)
