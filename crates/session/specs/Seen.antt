-- What a caller sees of a call on a session, and the one promise of all calls: 02, request a.
--   CallSeen         what is seen, by the call; number t: the refusal's number in it. Each case holds all that its call shows, so that nothing is forgotten
--   told_by v         what a call without outputs tells by the verdict v
--   shown_by_lem v x      what the call x shows by the verdict v: what the call beneath shows by it
--   Turn, turn z t   the session z after a call, by value or in bytes, and what is seen of the call
--   moved y x        the promise: what the call x on the session y leads to and shows
use Rattle.std.specs.Prelude.{ℕ}
use Rattle.schemes.specs.Schemes.{scheme_of_lem}
use Rattle.refusals.specs.{Refusals.number_in, Refusals.place_in, Seen.Told, Seen.Seen, Seen.shown, Refusals.Verdict}
use Rattle.offer.specs.Offer.{offer_message}
use Rattle.finish.specs.Finish.{FinishSeen, finish_shown}
use Rattle.reply.specs.Reply.{ReplySeen, reply_shown}
use Rattle.session.specs.Table.{Session, Call, offering, replying, finishing, closing, outcome, step}

pub data CallSeen : Type 0 where
  of_offer : Seen ℕ → CallSeen
  of_reply : ReplySeen → CallSeen
  of_finish : FinishSeen → CallSeen
  of_close : Told ℕ → CallSeen

unfoldable pub number : CallSeen → ℕ
number (of_offer t) = t.number
number (of_reply t) = t.number
number (of_finish t) = t.number
number (of_close t) = t.number

abbrev pub told_by : Verdict → Told ℕ
told_by v = record { number = number_in v; place = place_in v; counts = 0 }

unfoldable pub shown_by_lem : Verdict → Call → CallSeen
shown_by_lem v (offering k x n) = of_offer (shown v (offer_message (scheme_of_lem k) x) 0 n)
shown_by_lem v (replying k x m) = of_reply (reply_shown v (scheme_of_lem k) x m)
shown_by_lem v (finishing k x m) = of_finish (finish_shown v (scheme_of_lem k) x m)
shown_by_lem v closing = of_close (told_by v)

pub record Turn (S T : Type 0) : Type 0 where
  pub session : S
  pub seen : T

abbrev pub turn : {S T : Type 0} → S → T → Turn S T
turn z t = record { session = z; seen = t }

unfoldable pub moved : Session → Call → Turn Session CallSeen
moved y x = turn (step y x) (shown_by_lem (outcome y.stage x) x)
