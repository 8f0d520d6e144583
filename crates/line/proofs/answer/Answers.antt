-- `line::answer` meets its contract.
use Rattle.text.proofs.Answer.{answers}
use Rattle.line.proofs.{Showing.shown-short}
use Rattle.line.proofs.answer.Goals as goal

pub write-requires : goal.write-requires
write-requires c = shown-short _ c.decide.ensures

pub returns : goal.returns
returns c = answers 32 c.decide.ensures c.write.ensures
