-- What is stated in specs/Shown.
use Rattle.std.proofs.Common.{Ok, Err}
use Rattle.lists.proofs.Kit.{sym, ap, ◌∙◌}
use Rattle.schemes.proofs.Sound.{sound}
use Rattle.refusals.specs.Seen.{Told}
use Rattle.refusals.proofs.{Laws.both, Seen.same-counts, Seen.same-refused, Seen.never_both}
use Rattle.wire.proofs.Travel.{opening-again}
use Rattle.reply.specs.Reply.{ReplySeen, opened_of, reply_seen, ReplyCounts}
use Rattle.reply.specs.Shown.{ReplySeenAll, ReplyToldAll, OpeningComesBack, KeysFit}
use Rattle.reply.proofs.Replying.{key-length, reply-sized, reply-apart}

-- the numbers of the answer, from what is seen
told_in : ReplySeen → Told ReplyCounts
told_in s =
    record {
      number = s.number;
      place = s.place;
      counts = record { message = s.message.count; key = s.key.count; digest = s.digest.count };
    }

pub reply-seen-all : ReplySeenAll
unfolding reply_seen told_in
reply-seen-all t t' message message' key key' digest digest' e = (
  ap told_in e,
  ap (λ (s : ReplySeen). s.message.holds) e,
  ap (λ (s : ReplySeen). s.key.holds) e,
  ap (λ (s : ReplySeen). s.digest.holds) e,
)

pub reply-told-all : ReplyToldAll
reply-told-all (Ok n) (Ok n') e = ap Ok (same-counts e)
reply-told-all (Ok n) (Err r) e = never_both r e
reply-told-all (Err r) (Ok n) e = never_both r (sym e)
reply-told-all (Err r) (Err s) e = ap Err (same-refused r s e)

pub opening-comes-back : OpeningComesBack
unfolding opened_of
opening-comes-back c x m b t =
    let sizes = (both _ _ (both _ _ (sym (reply-apart c x m) ∙ t)).0).0 in
    opening-again c x.opening (reply-sized c x m sizes).opening-long b

pub keys-fit : KeysFit
keys-fit c x = (key-length c x, (sound c).keys)
