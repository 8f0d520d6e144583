-- `rows::offer_end` meets its contract: the message, and then zeros into the state, where nothing is refused.
use Rattle.lists.proofs.Kit.{length}
use Rattle.refusals.proofs.Ends.{given_up}
use Rattle.rows.proofs.{Opening.end_kept, Opening.end-cleared}
use Rattle.rows.proofs.offer_end.Goals as goal

pub returns-in_err-n : goal.returns-in_err-n
returns-in_err-n c =
    rw (given_up _ c.from_residual.ensures) (end_kept c.args.state.now _ (length c.args.message.now) c.send.ensures c.in_err-n.was)

pub returns : goal.returns
returns c =
    end-cleared c.args.state.now _ (length c.args.message.now) c.send.ensures c.in_ok-n.was (c.fill.ensures.after (λ y e. e))
