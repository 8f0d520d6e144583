-- `rows::replier::send` meets its contract: by the scheme that the state names, turn and rooms, and the verdict on the part about to be sent.
use Rattle.lists.proofs.Kit.{refl, sym, ap, ◌∙◌, length, get_or}
use Rattle.schemes.specs.declared.Fixed.{Fixed}
use Rattle.lists.proofs.Parts.{front_long}
use Rattle.refusals.proofs.Ends.{given_up}
use Rattle.values.proofs.Numbers.{numbers-in}
use Rattle.reply.specs.Reply.{reply_rooms_of}
use Rattle.rows.proofs.Replying.{end-unknown, end-failed, end-roomy, end-fits, end-blank, end-done}
use Rattle.rows.proofs.{Ends.none_named, Ends.frodo-known}
use Rattle.rows.proofs.replier.send.Goals as goal

pub returns-in_err-scheme : goal.returns-in_err-scheme
returns-in_err-scheme c =
    let u = none_named _ c.in_err-scheme.ensures.value in
    rw (given_up _ c.from_residual.ensures, u.1) (end-unknown c.args.state.now (reply_rooms_of (length c.args.message.now) (length c.args.key.now) c.args.m) c.named.ensures (c.fill.ensures.after (λ y e. e)) (c.fill-2.ensures.after (λ y e. e)) u.0)

pub end_sizes-requires : goal.end_sizes-requires
end_sizes-requires c = (numbers-in _ (frodo-known (get_or c.args.state.now 1 0) c.named.ensures c.in_ok-scheme.ensures.ok_part)).few

pub slice_bounds-lay-end : goal.slice_bounds-lay-end
slice_bounds-lay-end c = (end-fits c.args.state.now (reply_rooms_of (length c.args.message.now) (length c.args.key.now) c.args.m) c.named.ensures (c.fill.ensures.after (λ y e. e)) (c.fill-2.ensures.after (λ y e. e)) c.in_ok-scheme.ensures.ok_part c.in_ok-end_sizes.ensures refl c.fixed-f.ensures).0

pub slice_bounds-lay-end-2 : goal.slice_bounds-lay-end-2
slice_bounds-lay-end-2 c = sym (front_long _ _ (end-fits c.args.state.now (reply_rooms_of (length c.args.message.now) (length c.args.key.now) c.args.m) c.named.ensures (c.fill.ensures.after (λ y e. e)) (c.fill-2.ensures.after (λ y e. e)) c.in_ok-scheme.ensures.ok_part c.in_ok-end_sizes.ensures refl c.fixed-f.ensures).0)

pub slice_bounds-lay-end-3 : goal.slice_bounds-lay-end-3
slice_bounds-lay-end-3 c = (end-fits c.args.state.now (reply_rooms_of (length c.args.message.now) (length c.args.key.now) c.args.m) c.named.ensures (c.fill.ensures.after (λ y e. e)) (c.fill-2.ensures.after (λ y e. e)) c.in_ok-scheme.ensures.ok_part c.in_ok-end_sizes.ensures refl c.fixed-f.ensures).1

pub slice_bounds-lay-end-4 : goal.slice_bounds-lay-end-4
slice_bounds-lay-end-4 c = sym (front_long _ _ (end-fits c.args.state.now (reply_rooms_of (length c.args.message.now) (length c.args.key.now) c.args.m) c.named.ensures (c.fill.ensures.after (λ y e. e)) (c.fill-2.ensures.after (λ y e. e)) c.in_ok-scheme.ensures.ok_part c.in_ok-end_sizes.ensures refl c.fixed-f.ensures).1)

pub lay-requires : goal.lay-requires
lay-requires c =
    let h = end-fits c.args.state.now (reply_rooms_of (length c.args.message.now) (length c.args.key.now) c.args.m) c.named.ensures (c.fill.ensures.after (λ y e. e)) (c.fill-2.ensures.after (λ y e. e)) c.in_ok-scheme.ensures.ok_part c.in_ok-end_sizes.ensures refl c.fixed-f.ensures in
    record {
      scheme_value = (frodo-known (get_or c.args.state.now 1 0) c.named.ensures c.in_ok-scheme.ensures.ok_part, (end-roomy c.args.state.now (reply_rooms_of (length c.args.message.now) (length c.args.key.now) c.args.m) c.named.ensures (c.fill.ensures.after (λ y e. e)) (c.fill-2.ensures.after (λ y e. e)) c.in_ok-scheme.ensures.ok_part c.in_ok-end_sizes.ensures refl).has-begun);
      message_len = (front_long _ _ h.0 ∙ ap (λ (g : Fixed). g.reply) c.fixed-f.ensures, front_long _ _ h.1 ∙ ap (λ (g : Fixed). g.key) c.fixed-f.ensures);
    }

pub returns-in_err-end_sizes : goal.returns-in_err-end_sizes
returns-in_err-end_sizes c =
    rw (given_up _ c.from_residual-in_err-end_sizes.ensures) (end-failed c.args.state.now (reply_rooms_of (length c.args.message.now) (length c.args.key.now) c.args.m) c.named.ensures (c.fill.ensures.after (λ y e. e)) (c.fill-2.ensures.after (λ y e. e)) c.in_ok-scheme.ensures.ok_part c.in_err-end_sizes.ensures refl)

pub returns-in_err-lay : goal.returns-in_err-lay
returns-in_err-lay c =
    rw (given_up _ c.from_residual-in_err-lay.ensures)
    (end-blank c.args.state.now (reply_rooms_of (length c.args.message.now) (length c.args.key.now) c.args.m) c.named.ensures (c.fill.ensures.after (λ y e. e)) (c.fill-2.ensures.after (λ y e. e)) c.in_ok-scheme.ensures.ok_part c.in_ok-end_sizes.ensures refl c.fixed-f.result.reply c.fixed-f.result.key c.in_err-lay.ensures.value c.in_err-lay.ensures.laid c.in_err-lay.ensures.laid_2 refl)

pub returns : goal.returns
returns c =
    end-done c.args.state.now (reply_rooms_of (length c.args.message.now) (length c.args.key.now) c.args.m) c.named.ensures (c.fill.ensures.after (λ y e. e)) (c.fill-2.ensures.after (λ y e. e)) c.in_ok-scheme.ensures.ok_part c.in_ok-end_sizes.ensures refl c.fixed-f.result.reply c.fixed-f.result.key c.in_ok-lay.ensures.value c.in_ok-lay.ensures.laid c.in_ok-lay.ensures.laid_2 refl
    (ap (λ (g : Fixed). g.reply) c.fixed-f.ensures) (ap (λ (g : Fixed). g.key) c.fixed-f.ensures)
