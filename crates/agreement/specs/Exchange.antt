-- One exchange between two boxes, by what the calls promise and nothing else: 01, "The calls", and demand 3.
--   Ranged c x     the inputs x have the lengths and the ranges of the scheme
--   Sendable c x   they are, and neither packed part is blank (02, request l)
--   Rooms          the rooms that the three calls are lent
--   Enough c m     no room is shorter than its answer
--   offers, replies, finishes c x m   what is seen of Offer and Finish in the one box and of Reply in the other, in the scheme c, on the inputs x, in the rooms m
--   Exchange c x   these calls, and none of them refused
--   own_key t       the replier's key: the bytes that Reply says it wrote
--   peer_key t      the initiator's key: those that Finish says it wrote
--   told_slack t    the slack used and its first index, as Finish tells them
--   Accepted       lengths, ranges and blank parts decide, nothing else: the inputs of an exchange are sendable, and on any such there is an exchange
--   Numbered       a call that refuses nothing was given a scheme
--   OneNumber      which its number names, and no other number
--   NeverFive      01: refusal 5 can't arise in Frodo
use Rattle.std.specs.Prelude.{Some, Option, ◌≡◌, false, List, ◌↔◌, ℕ, ◌≤◌, length}
use Rattle.schemes.specs.Schemes.{family_of, fixed_of, scheme_number, scheme_of_lem}
use Rattle.schemes.specs.{declared.Family.Family, declared.Scheme.Scheme}
use Rattle.lists.specs.declared.Peak.{Peak}
use Rattle.blank.specs.Blank.{blank}
use Rattle.refusals.specs.{Refusals.number_in, Seen.Seen, Seen.answer}
use Rattle.values.specs.Fit.{Counted, Small}
use Rattle.offer.specs.Offer.{Offer, offered_part, offer_result}
use Rattle.finish.specs.{Finish.Finish, Finish.FinishRooms, Finish.FinishSeen, Finish.finish_tests, Finish.finish_result, Shown.FinishEnough}
use Rattle.reply.specs.Reply.{Reply, ReplyRooms, ReplySeen, replied_part, reply_tests, reply_result}
use Rattle.agreement.specs.Run.{Run, offering, reply_to, finish_with}

pub record Ranged (c : Scheme) (x : Run) : Type 0 where
  pub public : Counted (fixed_of c).public (fixed_of c).q x.a
  pub secret : Small (fixed_of c).secret (fixed_of c).largest x.s
  pub noise : Small (fixed_of c).noise (fixed_of c).largest x.e
  pub seed : length x.seed ≡ (fixed_of c).seed
  pub secret' : Small (fixed_of c).secret (fixed_of c).largest x.s'
  pub noise' : Small (fixed_of c).noise (fixed_of c).largest x.e'
  pub noise'' : Small (fixed_of c).mixed (fixed_of c).largest x.e''
  pub coins : length x.coins ≡ (fixed_of c).coins

pub record Sendable (c : Scheme) (x : Run) : Type 0 where
  pub ranged : Ranged c x
  pub opening : blank (offered_part c (offering x)) ≡ false
  pub reply : blank (replied_part c x.a x.s' x.e') ≡ false

pub record Rooms : Type 0 where
  pub offer : ℕ
  pub reply : ReplyRooms
  pub finish : FinishRooms

pub record Enough (c : Scheme) (m : Rooms) : Type 0 where
  pub opening : (fixed_of c).opening ≤ m.offer
  pub reply : (fixed_of c).reply ≤ m.reply.message
  pub key : (fixed_of c).key ≤ m.reply.key
  pub digest : 32 ≤ m.reply.digest
  pub finish : FinishEnough c m.finish

-- x has one list of public numbers, which both boxes take, and one secret s, which Offer and Finish take; each call takes the message as the one before wrote it
module _ (c : Scheme) (x : Run) (m : Rooms) where
  abbrev pub offers : Seen ℕ
  offers = offer_result (Some c) (offering x) m.offer

  abbrev pub replies : ReplySeen
  replies = reply_result (Some c) (reply_to x (answer offers.out)) m.reply

  abbrev pub finishes : FinishSeen
  finishes = finish_result (Some c) (finish_with x (answer replies.message)) m.finish

pub record Exchange (c : Scheme) (x : Run) : Type 0 where
  pub rooms : Rooms
  pub offer-accepted : (offers c x rooms).number ≡ 0
  pub reply-accepted : (replies c x rooms).number ≡ 0
  pub finish-accepted : (finishes c x rooms).number ≡ 0

module _ {c : Scheme} {x : Run} (t : Exchange c x) where
  abbrev pub own_key : List ℕ
  own_key = answer (replies c x t.rooms).key

  abbrev pub peer_key : List ℕ
  peer_key = answer (finishes c x t.rooms).key

  abbrev pub told_slack : Peak
  told_slack = (finishes c x t.rooms).slack

-- ---- what is shown

abbrev pub Accepted : Type 0
Accepted = (c : Scheme) (x : Run) → Exchange c x ↔ Sendable c x

abbrev pub Numbered : Type 0
Numbered = (n : Option Scheme) (x : Offer) (room : ℕ) → (offer_result n x room).number ≡ 0 → (c : Scheme) × (n ≡ Some c)

abbrev pub OneNumber : Type 0
OneNumber = (k : ℕ) (c : Scheme) → (scheme_of_lem k ≡ Some c) ↔ (k ≡ scheme_number c)

abbrev pub NeverFive : Type 0
NeverFive =
    (c : Scheme) → family_of c ≡ Family.Frodo
    → ((x : Reply) (m : ReplyRooms) → number_in (reply_tests (Some c) x m) ≡ 5 → ⊥) × ((x : Finish) (m : FinishRooms) → number_in (finish_tests (Some c) x m) ≡ 5 → ⊥)
