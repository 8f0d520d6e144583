-- `reply::reply` meets its contract: where the number names no scheme the outputs are all zeros.
use Rattle.refusals.specs.declared.Refusal.TheVariants.{NoScheme}
use Rattle.refusals.proofs.Ends.{given_up}
use Rattle.reply.proofs.{Replying.reply-unknown, Replying.reply-refused}
use Rattle.reply.proofs.reply.Goals as goal

pub returns-in_err-known : goal.returns-in_err-known
returns-in_err-known c =
    let v = c.in_err-known.ensures.value in
    let z = c.zero_outputs.ensures in
    rw (given_up _ {e = NoScheme} c.from_residual.ensures) (reply-refused _ _ _ _ (reply-unknown _ _ v.0) z.message_value z.key_value v.1)
