-- `reply::replier::reply_in` meets its contract: where lengths or rooms are refused the outputs keep their zeros.
use Rattle.refusals.proofs.Ends.{given_up}
use Rattle.reply.proofs.{Replying.reply-sizes-failed, Replying.reply-refused}
use Rattle.reply.proofs.replier.reply_in.Goals as goal

pub returns-in_err-reply_sizes : goal.returns-in_err-reply_sizes
returns-in_err-reply_sizes c =
    rw (given_up _ c.from_residual.ensures)
    (reply-refused _ _ _ _ (reply-sizes-failed _ _ _ c.in_err-reply_sizes.ensures) c.requires.message_value.0 c.requires.message_value.1 c.requires.digest_value)
