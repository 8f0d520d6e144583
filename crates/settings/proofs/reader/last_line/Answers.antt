-- `settings::reader::last_line` meets its contract.
use Rattle.lists.proofs.Kit.{◌∙◌, sym}
use Rattle.settings.proofs.{Steps.last-room}
use Rattle.settings.proofs.reader.last_line.Goals as goal

pub slice_bounds-spelled-count : goal.slice_bounds-spelled-count
slice_bounds-spelled-count c =
    last-room _ (sym c.if-begins_with.true ∙ c.begins_with.ensures)

pub slice_bounds-spelled-start : goal.slice_bounds-spelled-start
slice_bounds-spelled-start c =
    last-room _ (sym c.if-begins_with.true ∙ c.begins_with.ensures)
