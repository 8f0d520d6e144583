-- `exchange::answerer::answer_grown` meets its contract: the refusal of the opening or of Grow, or answer by the numbers that are grown.
use Rattle.refusals.proofs.Ends.{given_up}
use Rattle.exchange.proofs.Answering.{answer-grows, answer-ran-out}
use Rattle.exchange.proofs.answerer.answer_grown.Goals as goal

pub returns-in_err-grow_opened : goal.returns-in_err-grow_opened
returns-in_err-grow_opened c =
    let z = c.requires.message_value in
    rw (given_up _ c.from_residual.ensures)
    (answer-ran-out c.requires.answer_sized c.grow_opened.ensures.value c.in_err-grow_opened.was z.0 z.1 c.requires.digest_value)

pub returns : goal.returns
returns c =
    answer-grows c.requires.answer_sized c.grow_opened.ensures.value c.in_ok-grow_opened.was c.grow_opened.ensures.numbers_value c.answer_drawn.ensures
