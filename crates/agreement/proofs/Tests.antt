-- What the tests of the calls say of a run's inputs.
--   sendable-by      inputs that pass the tests of Offer and Reply are in range, and neither packed part is blank
--   opened-is, replied-is, hints-are   the numbers and the hints of the run's messages come back
--   opening-received an opening that Offer has made passes the tests of a part that has come
--   offer-passes, reply-passes, finish-passes   such inputs pass the tests of each call, in any rooms that are enough
--   offer-room, reply-rooms   a call that passes its tests was lent such rooms
use Rattle.lists.proofs.Kit.{sym, ◌∙◌, false, List, ℕ, length}
use Rattle.std.proofs.Common.{Some, ◌≡◌, ◌≤◌}
use Rattle.schemes.specs.{Schemes.fixed_of, declared.Scheme.Scheme}
use Rattle.blank.specs.Blank.{blank}
use Rattle.refusals.specs.{Refusals.◌then◌, Refusals.received_in, Refusals.pass}
use Rattle.refusals.proofs.Laws.{both, all_pass, length-passes, room-passes, below-passes, message-passes, within-passes, not-blank-passes, not-blank-passed}
use Rattle.values.specs.{Keys.hints, Values.offered, Values.replied}
use Rattle.values.proofs.{Ranges.offered-counted, Ranges.replied-counted, Ranges.mixed-counted, Settling.hints-counted}
use Rattle.wire.specs.Wire.{opened_in, replied_in, hints_in, coins_in}
use Rattle.wire.proofs.Travel.{opened-part, opened-back, replied-part, replied-back, hints-back}
use Rattle.offer.specs.{Offer.Offer, Offer.offered_part, Offer.offer_tests, Offer.offer_message, Inside.offer_lengths_lem, Inside.offer_in_lem}
use Rattle.offer.proofs.Offering.{opening-long, offer-opens}
use Rattle.finish.specs.{Finish.FinishRooms, Finish.replied_of, Finish.finish_tests, Shown.FinishEnough}
use Rattle.reply.specs.Reply.{Reply, ReplyRooms, opened_of, reply_value, replied_part, reply_tests, reply_message}
use Rattle.reply.specs.Inside.{reply_last, reply_rest}
use Rattle.reply.proofs.Replying.{message-length, reply-sized, reply-apart, secrets-small}
use Rattle.agreement.specs.{Run.Run, Run.offering, Run.reply_to, Run.replying, Run.finishing, Exchange.Ranged, Exchange.Sendable}

module _ (c : Scheme) (x : Run) where
  -- of any opening
  pub sendable-by : (n : ℕ) (m : ReplyRooms) (opening : List ℕ) → offer_tests (Some c) (offering x) n ≡ pass
      → reply_tests (Some c) (reply_to x opening) m ≡ pass → Sendable c x
  unfolding offer_tests offer_in_lem offer_lengths_lem reply_rest reply_last
  sendable-by n m opening o r =
      let lent = both _ _ o in
      let opens = (offer-opens c (offering x) n lent.0).0 in
      let t = both _ _ (sym (reply-apart c _ m) ∙ r) in
      let last = both _ _ (both _ _ t.1).1 in
      let sizes = reply-sized c _ m (both _ _ t.0).0 in
      let small = secrets-small c x.s' x.e' x.e'' last.0 in
      let ranged : Ranged c x = record {
        public = opens.public;
        secret = opens.secret;
        noise = opens.noise;
        seed = opens.seed-long;
        secret' = record { long = sizes.secret-long; within = small.0 };
        noise' = record { long = sizes.noise-long; within = small.1 };
        noise'' = record { long = sizes.last-long; within = small.2 };
        coins = sizes.coins-long;
      } in
      record { ranged = ranged; opening = not-blank-passed _ lent.1; reply = not-blank-passed _ last.1 }

  -- ---- what comes back

  pub opened-is : length x.seed ≡ (fixed_of c).seed → opened_of c (replying c x) ≡ offered c x.a x.s x.e
  unfolding opened_of offer_message
  opened-is l = opened-back c x.seed l (offered-counted c x.a x.s x.e)

  -- the packed parts, as they came
  opened-part-is : length x.seed ≡ (fixed_of c).seed → opened_in c (offer_message (Some c) (offering x)) ≡ offered_part c (offering x)
  unfolding offer_message
  opened-part-is l = opened-part c x.seed l (offered-counted c x.a x.s x.e)

  replied-part-is : replied_in c (reply_message (Some c) (replying c x)) ≡ replied_part c x.a x.s' x.e'
  unfolding reply_message reply_value
  replied-part-is =
      replied-part c (replied-counted c x.a x.s' x.e') (hints-counted c (coins_in c x.coins) _ (mixed-counted c _ x.s' x.e'').long)

  pub replied-is : replied_of c (finishing c x) ≡ replied c x.a x.s' x.e'
  unfolding replied_of reply_message reply_value
  replied-is =
      replied-back c (replied-counted c x.a x.s' x.e') (hints-counted c (coins_in c x.coins) _ (mixed-counted c _ x.s' x.e'').long)

  pub hints-are : hints_in c (reply_message (Some c) (replying c x)) ≡ hints c (coins_in c x.coins) (reply_value c (replying c x))
  unfolding reply_message reply_value
  hints-are =
      hints-back c (replied-counted c x.a x.s' x.e') (hints-counted c (coins_in c x.coins) _ (mixed-counted c _ x.s' x.e'').long)

  -- ---- what passes

  pub opening-received : length x.seed ≡ (fixed_of c).seed → blank (offered_part c (offering x)) ≡ false
      → received_in (fixed_of c).q (opened_in c (offer_message (Some c) (offering x))) (opened_of c (replying c x)) ≡ pass
  unfolding received_in
  opening-received l b =
      all_pass (rw (opened-is l) (message-passes (offered-counted c x.a x.s x.e).below)) (rw (opened-part-is l) (not-blank-passes _ b))

  module _ (s : Sendable c x) where
    h : Ranged c x
    h = s.ranged

    pub offer-passes : (n : ℕ) → (fixed_of c).opening ≤ n → offer_tests (Some c) (offering x) n ≡ pass
    unfolding offer_tests ◌then◌
    offer-passes n l =
        rw (
          length-passes h.public.long,
          length-passes h.secret.long,
          length-passes h.noise.long,
          length-passes h.seed,
          room-passes l,
          below-passes h.public.below,
          within-passes h.secret.within,
          within-passes h.noise.within,
          not-blank-passes _ s.opening,
        )

    pub reply-passes : (m : ReplyRooms) → (fixed_of c).reply ≤ m.message → (fixed_of c).key ≤ m.key → 32 ≤ m.digest → reply_tests (Some c) (replying c x) m ≡ pass
    unfolding reply_tests ◌then◌
    reply-passes m l k d =
        rw (
          length-passes (opening-long c (offering x) h.seed),
          length-passes h.public.long,
          length-passes h.secret'.long,
          length-passes h.noise'.long,
          length-passes h.noise''.long,
          length-passes h.coins,
          room-passes l,
          room-passes k,
          room-passes d,
          below-passes h.public.below,
          opened-is h.seed,
          message-passes (offered-counted c x.a x.s x.e).below,
          opened-part-is h.seed,
          not-blank-passes _ s.opening,
          within-passes h.secret'.within,
          within-passes h.noise'.within,
          within-passes h.noise''.within,
          not-blank-passes _ s.reply,
        )

    pub finish-passes : (m : FinishRooms) → FinishEnough c m → finish_tests (Some c) (finishing c x) m ≡ pass
    unfolding finish_tests ◌then◌
    finish-passes m r =
        rw (
          length-passes (message-length c (replying c x)),
          length-passes h.secret.long,
          room-passes r.0,
          room-passes r.1,
          replied-is,
          message-passes (replied-counted c x.a x.s' x.e').below,
          replied-part-is,
          not-blank-passes _ s.reply,
          within-passes h.secret.within,
        )

-- ---- the rooms

module _ (c : Scheme) where
  pub offer-room : (x : Offer) (n : ℕ) → offer_tests (Some c) x n ≡ pass → (fixed_of c).opening ≤ n
  unfolding offer_tests offer_in_lem offer_lengths_lem
  offer-room x n t = (offer-opens c x n (both _ _ t).0).1

  pub reply-rooms : (x : Reply) (m : ReplyRooms) → reply_tests (Some c) x m ≡ pass
      → ((fixed_of c).reply ≤ m.message) × ((fixed_of c).key ≤ m.key) × (32 ≤ m.digest)
  reply-rooms x m t =
      let s = reply-sized c x m (both _ _ (both _ _ (sym (reply-apart c x m) ∙ t)).0).0 in
      (s.roomy, s.key-roomy, s.digest-roomy)
