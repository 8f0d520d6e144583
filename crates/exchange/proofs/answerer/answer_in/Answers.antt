-- `exchange::answerer::answer_in` meets its contract: where a length or room is refused the outputs keep their zeros.
use Rattle.refusals.proofs.Ends.{given_up}
use Rattle.exchange.proofs.Answering.{answer-failed}
use Rattle.exchange.proofs.answerer.answer_in.Goals as goal

pub returns-in_err-answer_sizes : goal.returns-in_err-answer_sizes
returns-in_err-answer_sizes c =
    let z = c.requires.message_value in
    rw (given_up _ c.from_residual.ensures) (answer-failed _ _ _ z.0 z.1 c.requires.digest_value _ c.in_err-answer_sizes.ensures)
