-- Demand 3 over the joined matrix: 02, request e. Of the two boxes of an exchange in Frodo each goes by whole matrix or by rows, all by what the calls promise.
--   Meeting c x      as `Exchange` of crate `agreement`, with Offer and Reply each whole or by rows, where the accepted parts join into the a of x
--   ByRows           the demand, of every one of Frodo's schemes
--   Reached          the inputs of a meeting are sendable, and on any such there is a meeting
--   EveryCut         on any such, in any parts that do not run past the end of their row and join into A, both boxes go by rows from begin to end and nothing is
--                    refused; the two boxes need not cut A alike
use Rattle.std.specs.Prelude.{Some, ◌≡◌, ◌↔◌, List, [], ℕ, ◌≤◌, ◌⊎◌}
use Rattle.schemes.specs.{Schemes.family_of, Schemes.fixed_of, declared.Family.Family, declared.Scheme.Scheme}
use Rattle.lists.specs.Ranges.{Below}
use Rattle.refusals.specs.Seen.{Seen, answer}
use Rattle.offer.specs.Offer.{offer_message, offer_result}
use Rattle.finish.specs.Finish.{FinishSeen, finish_result}
use Rattle.reply.specs.Reply.{ReplyRooms, ReplySeen, reply_result}
use Rattle.agreement.specs.{Run.Run, Run.offering, Run.reply_to, Run.finish_with, Exchange.Sendable, Exchange.Rooms, Agreement.Near, Agreement.Agreed}
use Rattle.rows.specs.Runs.{joined, WithinRows, OfferRun, ReplyRun, OfferAccepted, ReplyAccepted}
use Rattle.rows.specs.{Offer.offer_begin_of, Reply.reply_begin_of}

pub record Meeting (c : Scheme) (x : Run) : Type 0 where
  pub rooms : Rooms
  -- Offer
  pub offer : Seen ℕ
  pub offers :
      (offer ≡ offer_result (Some c) (offering x) rooms.offer)
      ⊎ OfferRun c (offer_begin_of x.s x.e x.seed) x.a rooms.offer offer
  pub offer-accepted : offer.number ≡ 0
  -- Reply, to the opening as Offer wrote it
  pub reply : ReplySeen
  pub replies :
      (reply ≡ reply_result (Some c) (reply_to x (answer offer.out)) rooms.reply)
      ⊎ ReplyRun c (reply_begin_of (answer offer.out) x.s' x.e' x.e'') x.a rooms.reply reply
  pub reply-accepted : reply.number ≡ 0
  -- Finish, of the reply as Reply wrote it
  pub finish : FinishSeen
  pub finishes : finish ≡ finish_result (Some c) (finish_with x (answer reply.message)) rooms.finish
  pub finish-accepted : finish.number ≡ 0

-- ---- what is shown; Frodo has no coins, and a seed is bytes

abbrev pub ByRows : Type 0
ByRows =
    (c : Scheme) (x : Run) → family_of c ≡ Family.Frodo → Below 256 x.seed → x.coins ≡ [] → (t : Meeting c x) → Near c x → Agreed c x t.reply t.finish

abbrev pub Reached : Type 0
Reached = (c : Scheme) (x : Run) → family_of c ≡ Family.Frodo → Below 256 x.seed → x.coins ≡ [] → Meeting c x ↔ Sendable c x

abbrev pub EveryCut : Type 0
EveryCut =
    (c : Scheme) (x : Run) (ps ps' : List (List ℕ)) (n : ℕ) (m : ReplyRooms) → family_of c ≡ Family.Frodo → Below 256 x.seed → x.coins ≡ [] →
    Sendable c x → joined ps ≡ x.a → joined ps' ≡ x.a → WithinRows (fixed_of c).n 0 ps → WithinRows (fixed_of c).n 0 ps' →
    (fixed_of c).opening ≤ n → (fixed_of c).reply ≤ m.message → (fixed_of c).key ≤ m.key → 32 ≤ m.digest →
    OfferAccepted c (offer_begin_of x.s x.e x.seed) ps n
    × ReplyAccepted c (reply_begin_of (offer_message (Some c) (offering x)) x.s' x.e' x.e'') ps' m
