-- `text::write_text` meets its contract.
use Rattle.text.proofs.{Writing.written-copy}
use Rattle.text.proofs.write_text.Goals as goal

pub returns : goal.returns
returns c = written-copy _ _ c.copy_from_slice.ensures.after
