-- `text::begins_with` meets its contract.
use Rattle.lists.proofs.Kit.{◌∙◌}
use Rattle.text.proofs.Reading.{begun}
use Rattle.text.proofs.begins_with.Goals as goal

pub returns : goal.returns
returns c = c.starts_with.ensures.value ∙ begun c.args.label.now c.args.s.now
