-- Demand 3 for boxes that make their inputs of random bytes: crate `exchange`.
--   Lendings            what the two boxes are lent: public a and table, which both take, and random bytes of each
--   opening c k x       what open is lent; answering c k x opening: what answer is, to any opening
--   run_of c k x         the inputs that the random bytes make
--   Opened c k x        open in the one box and answer in the other, on the opening as open wrote it, and none refused
--   finish_on t m        Finish in the first, of the reply as answer wrote it and the s that open gave, in the rooms m
--   FromRandom          the demand: where Finish refuses nothing either, and what the random bytes make is near, both boxes agree
--   FromRandomFinishes  with enough room Finish then refuses nothing
use Rattle.std.specs.Prelude.{Some, Option, ◌≡◌, List, ℕ}
use Rattle.noise.specs.declared.RuleName.{RuleName}
use Rattle.schemes.specs.{declared.Scheme.Scheme}
use Rattle.lists.specs.Ranges.{Below}
use Rattle.refusals.specs.Seen.{answer}
use Rattle.offer.specs.Offer.{offer_message}
use Rattle.finish.specs.{Finish.FinishRooms, Finish.FinishSeen, Finish.finish, Finish.finish_result, Shown.FinishEnough}
use Rattle.reply.specs.Reply.{ReplyRooms, ReplySeen}
use Rattle.agreement.specs.{Run.Run, Agreement.Near, Agreement.Agreed}
use Rattle.exchange.specs.Open.{OpenLent, OpenRooms, OpenSeen, open_lent, open_offer, open_result}
use Rattle.exchange.specs.Answer.{AnswerLent, answer_lent, answer_reply, answer_result}

pub record Lendings : Type 0 where
  pub a : List ℕ
  pub table : List ℕ
  pub random : List ℕ
  pub random' : List ℕ

abbrev pub opening : Lendings → OpenLent
opening x = open_lent x.a x.table x.random

abbrev pub answering : Lendings → List ℕ → AnswerLent
answering x message = answer_lent message x.a x.table x.random'

unfoldable pub run_of : Scheme → Option RuleName → Lendings → Run
run_of c k x =
    let o = open_offer (Some c) k (opening x) in
    let r = answer_reply (Some c) k (answering x (offer_message (Some c) o)) in
    record { a = o.a; s = o.s; e = o.e; seed = o.seed; s' = r.s'; e' = r.e'; e'' = r.e''; coins = r.coins }

pub record Opened (c : Scheme) (k : Option RuleName) (x : Lendings) : Type 0 where
  pub open-rooms : OpenRooms
  pub reply-rooms : ReplyRooms
  -- open
  pub opened : OpenSeen
  pub opens : opened ≡ open_result (Some c) k (opening x) open-rooms
  pub open-accepted : opened.number ≡ 0
  -- answer, to the opening as open wrote it
  pub reply : ReplySeen
  pub answers : reply ≡ answer_result (Some c) k (answering x (answer opened.opening)) reply-rooms
  pub reply-accepted : reply.number ≡ 0

abbrev pub finish_on : {c : Scheme} {k : Option RuleName} {x : Lendings} → Opened c k x → FinishRooms → FinishSeen
finish_on {c} t m = finish_result (Some c) (finish (answer t.reply.message) (answer t.opened.s)) m

-- ---- what is shown; random bytes are bytes

abbrev pub FromRandom : Type 0
FromRandom =
    (c : Scheme) (k : Option RuleName) (x : Lendings) (t : Opened c k x) (m : FinishRooms) → Below 256 x.random → Below 256 x.random'
    → (finish_on t m).number ≡ 0 → Near c (run_of c k x) → Agreed c (run_of c k x) t.reply (finish_on t m)

abbrev pub FromRandomFinishes : Type 0
FromRandomFinishes =
    (c : Scheme) (k : Option RuleName) (x : Lendings) (t : Opened c k x) (m : FinishRooms) → Below 256 x.random → Below 256 x.random'
    → FinishEnough c m → (finish_on t m).number ≡ 0
