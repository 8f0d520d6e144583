-- The theorems of specs/FromRandom: open and answer that refuse nothing have run Offer and Reply on what the random bytes make.
--   opening-is, secret-is, message-is   what they wrote is Offer's and Reply's
--   sendable          what the random bytes make is sendable
--   replied-is, finished-is   with Finish they are the calls of an exchange
--   from-random-finishes, from-random   as specs/FromRandom states them
use Rattle.std.proofs.Common.{Some, Option, ◌≡◌}
use Rattle.noise.specs.declared.RuleName.{RuleName}
use Rattle.lists.proofs.Kit.{refl, ◌∙◌, sym, ap, List, ℕ, length}
use Rattle.schemes.specs.{Schemes.fixed_of, declared.Scheme.Scheme}
use Rattle.lists.specs.Ranges.{Below}
use Rattle.refusals.specs.{Refusals.number_in, Seen.answer, Seen.shown, Refusals.pass}
use Rattle.refusals.proofs.{Laws.number-zero, Laws.both, Seen.written-answer}
use Rattle.values.proofs.Ranges.{offered-counted}
use Rattle.wire.specs.Wire.{seed_in}
use Rattle.wire.proofs.Travel.{seed-back}
use Rattle.offer.specs.{Offer.Offer, Offer.offer_tests, Offer.offer_message, Inside.offer_lengths_lem, Inside.offer_in_lem}
use Rattle.offer.proofs.Offering.{offer-opens}
use Rattle.finish.specs.Finish.{FinishRooms, finish_shown, finish_result}
use Rattle.reply.specs.Reply.{Reply, ReplySeen, reply, reply_tests, reply_message, reply_key, reply_digest, outputs, reply_result}
use Rattle.agreement.specs.Run.{Run, reply_to, replying, finish_with}
use Rattle.agreement.specs.{Agreement.Near, Agreement.Agreed, Exchange.Sendable, Exchange.Rooms, Exchange.offers}
use Rattle.agreement.proofs.Tests.{sendable-by, finish-passes}
use Rattle.exchange.specs.{Random.public_from, Answer.drawn_reply, Answer.answer_reply, Answer.answer_tests}
use Rattle.exchange.specs.Open.{OpenSeen, drawn_offer, open_offer, open_tests, open_shown}
use Rattle.exchange.proofs.Shown.{open-offers, answer-replies}
use Rattle.meetings.specs.FromRandom.{Lendings, opening, answering, run_of, Opened, finish_on, FromRandom, FromRandomFinishes}
use Rattle.meetings.proofs.Linked.{agreed}

module _ (c : Scheme) (k : Option RuleName) (x : Lendings) (t : Opened c k x) (b : Below 256 x.random) (b' : Below 256 x.random') where
  abbrev o : Offer
  o = open_offer (Some c) k (opening x)

  abbrev y : Reply
  y = answer_reply (Some c) k (answering x (offer_message (Some c) o))

  abbrev run : Run
  run = run_of c k x

  open-passed : open_tests (Some c) k (opening x) t.open-rooms ≡ pass
  unfolding open_shown
  open-passed = number-zero _ (sym t.open-accepted ∙ ap (λ (s : OpenSeen). s.number) t.opens)

  opening-is : answer t.opened.opening ≡ offer_message (Some c) o
  unfolding open_shown
  opening-is = ap (λ (s : OpenSeen). answer s.opening) t.opens ∙ written-answer _ 0 _ open-passed

  secret-is : answer t.opened.s ≡ o.s
  unfolding open_shown
  secret-is = ap (λ (s : OpenSeen). answer s.s) t.opens ∙ written-answer _ _ _ open-passed

  offer-passed : offer_tests (Some c) o t.open-rooms.opening ≡ pass
  offer-passed = open-offers (Some c) k (opening x) t.open-rooms b open-passed

  seed-long : length o.seed ≡ (fixed_of c).seed
  unfolding offer_tests offer_in_lem offer_lengths_lem
  seed-long = (offer-opens c o t.open-rooms.opening (both _ _ offer-passed).0).0.seed-long

  seed-is : seed_in c (offer_message (Some c) o) ≡ o.seed
  unfolding offer_message
  seed-is = seed-back c (offered-counted c o.a o.s o.e) o.seed seed-long

  -- both boxes have the same public numbers
  public-is : y.a ≡ o.a
  unfolding drawn_reply answer_reply drawn_offer open_offer
  public-is = ap (λ (seed : List ℕ). public_from c k seed x.a) seed-is

  reply-is : y ≡ replying c run
  unfolding drawn_reply answer_reply run_of
  reply-is = ap (λ (a : List ℕ). reply (offer_message (Some c) o) a y.s' y.e' y.e'' y.coins) public-is

  answered : t.reply ≡ outputs (answer_tests (Some c) k (answering x (offer_message (Some c) o)) t.reply-rooms) (reply_message (Some c) y) (reply_key (Some c) y) (reply_digest (Some c) y) t.reply-rooms
  answered = rw opening-is at t.answers

  answer-passed : answer_tests (Some c) k (answering x (offer_message (Some c) o)) t.reply-rooms ≡ pass
  unfolding outputs
  answer-passed = number-zero _ (sym t.reply-accepted ∙ ap (λ (s : ReplySeen). s.number) answered)

  message-is : answer t.reply.message ≡ reply_message (Some c) (replying c run)
  unfolding outputs
  message-is = ap (λ (s : ReplySeen). answer s.message) answered ∙ written-answer _ 0 _ answer-passed ∙ ap (reply_message (Some c)) reply-is

  reply-passed : reply_tests (Some c) y t.reply-rooms ≡ pass
  reply-passed = answer-replies (Some c) k (answering x (offer_message (Some c) o)) t.reply-rooms b' answer-passed

  sendable : Sendable c run
  unfolding run_of
  sendable = sendable-by c run t.open-rooms.opening t.reply-rooms (offer_message (Some c) o) offer-passed (rw reply-is at reply-passed)

  module _ (m : FinishRooms) where
    abbrev rooms : Rooms
    rooms = record { offer = t.open-rooms.opening; reply = t.reply-rooms; finish = m }

    sent : answer (offers c run rooms).out ≡ offer_message (Some c) o
    unfolding run_of shown
    sent = written-answer _ 0 _ offer-passed

    replied-is : t.reply ≡ reply_result (Some c) (reply_to run (answer (offers c run rooms).out)) t.reply-rooms
    unfolding run_of
    replied-is = answered ∙ rw (answer-passed, sent, ← reply-is, reply-passed)

    finished-is : finish_on t m ≡ finish_result (Some c) (finish_with run (answer t.reply.message)) m
    unfolding run_of
    finished-is = rw secret-is

    pub same : (finish_on t m).number ≡ 0 → Near c run → Agreed c run t.reply (finish_on t m)
    unfolding run_of shown
    same z near = agreed c run rooms refl replied-is finished-is (ap number_in offer-passed) t.reply-accepted z near

pub from-random-finishes : FromRandomFinishes
unfolding finish_shown run_of
from-random-finishes c k x t m b b' h =
    rw (message-is c k x t b b', secret-is c k x t b b') (ap number_in (finish-passes c (run_of c k x) (sendable c k x t b b') m h))

pub from-random : FromRandom
from-random c k x t m b b' z near = same c k x t b b' m z near
