-- A meeting is an exchange of the whole-matrix calls.
--   whole-offer, whole-reply   where an end is not refused, the parts have filled the rows, and it shows what the whole call shows
--   by_rows, reached, every-cut   what is shown
use Rattle.std.proofs.Common.{Err, Some, ◌≡◌, ◌⊎◌}
use Rattle.lists.proofs.Kit.{refl, sym, ap, subst, List, [], inl, inr, ℕ, arith, ℕ_discrete, length}
use Rattle.schemes.specs.{Schemes.family_of, Schemes.fixed_of, declared.Family.Family, declared.Scheme.Scheme}
use Rattle.lists.specs.Ranges.{Below}
use Rattle.refusals.specs.Refusals.{pass}
use Rattle.refusals.specs.{Seen.Seen, Seen.answer, Seen.shown, declared.Refusal.TheVariants.OutOfTurn}
use Rattle.offer.specs.Offer.{offer, offer_tests, offer_message, offer_result}
use Rattle.reply.specs.Reply.{ReplyRooms, ReplySeen, reply, reply_tests, outputs, reply_result}
use Rattle.agreement.specs.{Run.Run, Run.offering, Run.reply_to, Exchange.Exchange, Exchange.offers, Exchange.replies, Exchange.finishes}
use Rattle.agreement.proofs.{Accepted.accepted, Tests.offer-passes, Tests.reply-passes}
use Rattle.rows.specs.{Offer.OfferBegin, Offer.offer_begin_of, Reply.ReplyBegin, Reply.reply_begin_of, Runs.OfferRun, Runs.ReplyRun}
use Rattle.rows.proofs.{Offers.same-offer, Offers.early-offer, Offers.offer-taken, Replies.same-reply, Replies.early-reply, Replies.reply-taken}
use Rattle.meetings.specs.Meeting.{Meeting, ByRows, Reached, EveryCut}
use Rattle.meetings.proofs.Linked.{exchanged, agreed}

offer-early : (n : ℕ) {t : Seen ℕ} → t ≡ shown (Err OutOfTurn) [] 0 n → t.number ≡ 11
unfolding shown
offer-early n e = ap (λ (s : Seen ℕ). s.number) e

reply-early : (m : ReplyRooms) {t : ReplySeen} → t ≡ outputs (Err OutOfTurn) [] [] [] m → t.number ≡ 11
unfolding outputs
reply-early m e = ap (λ (s : ReplySeen). s.number) e

module _ (c : Scheme) (frodo : family_of c ≡ Family.Frodo) where
  whole-offer : (x : OfferBegin) (a : List ℕ) (n : ℕ) (t : Seen ℕ) → Below 256 x.seed → t.number ≡ 0 → OfferRun c x a n t
      → t ≡ offer_result (Some c) (offer a x.s x.e x.seed) n
  whole-offer x a n t b z r = go (ℕ_discrete (length a) (fixed_of c).public)
    where
      go : Dec (length a ≡ (fixed_of c).public) → t ≡ offer_result (Some c) (offer a x.s x.e x.seed) n
      go (yes e) = same-offer c x a n t frodo b r e
      go (no e) = absurd (omega (arith, offer-early n (early-offer c x a n t frodo b r e)))

  whole-reply : (x : ReplyBegin) (a : List ℕ) (m : ReplyRooms) (t : ReplySeen) → t.number ≡ 0 → ReplyRun c x a m t
      → t ≡ reply_result (Some c) (reply x.opening a x.s' x.e' x.e'' []) m
  whole-reply x a m t z r = go (ℕ_discrete (length a) (fixed_of c).public)
    where
      go : Dec (length a ≡ (fixed_of c).public) → t ≡ reply_result (Some c) (reply x.opening a x.s' x.e' x.e'' []) m
      go (yes e) = same-reply c x a m t frodo r e
      go (no e) = absurd (omega (arith, reply-early m (early-reply c x a m t frodo r e)))

  module _ (x : Run) (b : Below 256 x.seed) (none : x.coins ≡ []) (t : Meeting c x) where
    offer-by : (t.offer ≡ offers c x t.rooms) ⊎ OfferRun c (offer_begin_of x.s x.e x.seed) x.a t.rooms.offer t.offer
        → t.offer ≡ offers c x t.rooms
    offer-by (inl e) = e
    offer-by (inr r) = whole-offer (offer_begin_of x.s x.e x.seed) x.a _ _ b t.offer-accepted r

    abbrev Whole : Type 0
    Whole = t.reply ≡ reply_result (Some c) (reply_to x (answer t.offer.out)) t.rooms.reply

    reply-by : Whole ⊎ ReplyRun c (reply_begin_of (answer t.offer.out) x.s' x.e' x.e'') x.a t.rooms.reply t.reply → Whole
    reply-by (inl e) = e
    reply-by (inr r) = rw none (whole-reply (reply_begin_of (answer t.offer.out) x.s' x.e' x.e'') x.a _ _ t.reply-accepted r)

    offer-is : t.offer ≡ offers c x t.rooms
    offer-is = offer-by t.offers

    exchange : Exchange c x
    exchange = exchanged c x t.rooms offer-is (reply-by t.replies) t.finishes t.offer-accepted t.reply-accepted t.finish-accepted

pub by_rows : ByRows
by_rows c x frodo b none t near =
    agreed c x t.rooms (offer-is c frodo x b none t) (reply-by c frodo x b none t t.replies) t.finishes
    t.offer-accepted t.reply-accepted t.finish-accepted near

meeting : {c : Scheme} {x : Run} → Exchange c x → Meeting c x
meeting {c} {x} t =
    record {
      rooms = t.rooms;
      offer = offers c x t.rooms;
      offers = inl refl;
      offer-accepted = t.offer-accepted;
      reply = replies c x t.rooms;
      replies = inl refl;
      reply-accepted = t.reply-accepted;
      finish = finishes c x t.rooms;
      finishes = refl;
      finish-accepted = t.finish-accepted;
    }

pub reached : Reached
reached c x frodo b none = (λ t. (accepted c x).0 (exchange c frodo x b none t), λ s. meeting ((accepted c x).1 s))

-- ---- every cut

pub every-cut : EveryCut
every-cut c x ps ps' n m frodo b none s e e' w w' ho hn hk hd =
    let opening = offer_message (Some c) (offering x) in (
      (offer-taken c (offer_begin_of x.s x.e x.seed) ps n frodo b w).0
          (subst (λ (a : List ℕ). offer_tests (Some c) (offer a x.s x.e x.seed) n ≡ pass) (sym e) (offer-passes c x s n ho)),
      (reply-taken c (reply_begin_of opening x.s' x.e' x.e'') ps' m frodo w').0
          (subst (λ (a : List ℕ). reply_tests (Some c) (reply opening a x.s' x.e' x.e'' []) m ≡ pass) (sym e')
          (subst (λ (cs : List ℕ). reply_tests (Some c) (reply opening x.a x.s' x.e' x.e'' cs) m ≡ pass) none (reply-passes c x s m hn hk hd))),
    )
