-- `rows::reply_end` meets its contract: message and key, and where nothing is refused the key's digest, and then zeros into the state.
use Rattle.lists.proofs.Kit.{refl, sym, length}
use Rattle.lists.proofs.Parts.{front_long}
use Rattle.refusals.proofs.Ends.{given_up}
use Rattle.reply.specs.Reply.{reply_rooms_of}
use Rattle.rows.proofs.{Replying.end_kept, Replying.key_fits, Replying.digest-fits, Replying.end-cleared}
use Rattle.rows.proofs.reply_end.Goals as goal

pub slice_bounds-lay_digest-end : goal.slice_bounds-lay_digest-end
slice_bounds-lay_digest-end c =
    key_fits c.args.state.now (reply_rooms_of (length c.args.message.now) (length c.args.key.now) (length c.args.digest.now)) (c.fill.ensures.after (λ y e. e)) c.in_ok-n.ensures refl

pub slice_bounds-lay_digest-end-2 : goal.slice_bounds-lay_digest-end-2
slice_bounds-lay_digest-end-2 c =
    sym (front_long _ _ (key_fits c.args.state.now (reply_rooms_of (length c.args.message.now) (length c.args.key.now) (length c.args.digest.now)) (c.fill.ensures.after (λ y e. e)) c.in_ok-n.ensures refl))

pub lay_digest-requires : goal.lay_digest-requires
lay_digest-requires c =
    digest-fits c.args.state.now (reply_rooms_of (length c.args.message.now) (length c.args.key.now) (length c.args.digest.now)) (c.fill.ensures.after (λ y e. e)) c.in_ok-n.ensures refl

pub returns-in_err-n : goal.returns-in_err-n
returns-in_err-n c =
    rw (given_up _ c.from_residual.ensures) (end_kept c.args.state.now (reply_rooms_of (length c.args.message.now) (length c.args.key.now) (length c.args.digest.now)) (c.fill.ensures.after (λ y e. e)) c.in_err-n.ensures refl)

pub returns : goal.returns
returns c =
    end-cleared c.args.state.now (reply_rooms_of (length c.args.message.now) (length c.args.key.now) (length c.args.digest.now)) (c.fill.ensures.after (λ y e. e)) c.in_ok-n.ensures refl c.lay_digest.ensures (c.fill-2.ensures.after (λ y e. e))
