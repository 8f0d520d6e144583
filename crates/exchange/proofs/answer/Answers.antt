-- `exchange::answer` meets its contract: where the number names no scheme the outputs are all zeros.
use Rattle.refusals.specs.declared.Refusal.TheVariants.{NoScheme}
use Rattle.refusals.proofs.Ends.{given_up}
use Rattle.exchange.proofs.Answering.{answer-unknown}
use Rattle.exchange.proofs.answer.Goals as goal

pub returns-in_err-known : goal.returns-in_err-known
returns-in_err-known c =
    let v = c.in_err-known.ensures.value in
    let z = c.zero_outputs.ensures in
    rw (given_up _ {e = NoScheme} c.from_residual.ensures) (answer-unknown _ _ _ z.message_value z.key_value v.1 v.0)
