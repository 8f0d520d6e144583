-- Over any sequence of calls: 02, request a, "step for step over any sequence".
--   RanBy move y xs z ts   where each call moves as `move` promises, the calls xs lead from y to z, and the caller sees ts: of sessions by value, in bytes and in racks
--   Ran              so of sessions by value
--   seen_of y xs      what the table shows of each call
--   beneath x        what the call beneath promises
--   Sound y          what a session can hold: a key of zeros until keyed; then the scheme's key, and zeros behind it
-- What is shown:
--   Followed         any sequence is the run of the table, and shows what the table does
--   Answered         where the table allows a call, what is seen is what the call beneath promises, and else the refusal 10 with every output zero
--   Accepted         a call that refuses nothing was allowed, leads where the table says, and shows what the call beneath promises
--   Kept             a refused call, with 10 or any other number, changes no stage and no key byte
--   Sounds           the idle session is sound, and every sequence leaves a sound one sound
use Rattle.std.specs.Prelude.{Err, ◌≡◌, true, false, List, [], ◌∷◌, ℕ, length}
use Rattle.schemes.specs.Schemes.{scheme_of_lem, fixed_of}
use Rattle.refusals.specs.{declared.Refusal.TheVariants.OutOfStage, Refusals.pass}
use Rattle.offer.specs.Offer.{offer_result}
use Rattle.finish.specs.Finish.{finish_result}
use Rattle.reply.specs.Reply.{reply_result}
use Rattle.session.specs.Table.{Stage, Session, Idle, Offered, Keyed, Call, offering, replying, finishing, closing, row, padded, no_key_lem, idle, step, run}
use Rattle.session.specs.Seen.{CallSeen, of_offer, of_reply, of_finish, of_close, number, told_by, shown_by_lem, Turn, turn, moved}

pub data RanBy {S C : Type 0} (move : S → C → Turn S CallSeen) : S → List C → S → List CallSeen → Type 0 where
  none : {y : S} → RanBy move y [] y []
  more : {y z w : S} {x : C} {xs : List C} {t : CallSeen} {ts : List CallSeen} → turn z t ≡ move y x → RanBy move z xs w ts → RanBy move y (x ∷ xs) w (t ∷ ts)

abbrev pub Ran : Session → List Call → Session → List CallSeen → Type 0
Ran y xs z ts = RanBy moved y xs z ts

unfoldable pub seen_of : Session → List Call → List CallSeen
seen_of y [] = []
seen_of y (x ∷ xs) = (moved y x).seen ∷ seen_of (step y x) xs

abbrev pub beneath : Call → CallSeen
beneath (offering k x n) = of_offer (offer_result (scheme_of_lem k) x n)
beneath (replying k x m) = of_reply (reply_result (scheme_of_lem k) x m)
beneath (finishing k x m) = of_finish (finish_result (scheme_of_lem k) x m)
beneath closing = of_close (told_by pass)

-- ---- what a session can hold

abbrev pub Holds : Stage → List ℕ → Type 0
Holds Idle place = place ≡ no_key_lem
Holds (Offered c) place = place ≡ no_key_lem
Holds (Keyed c) place = (key : List ℕ) × (length key ≡ (fixed_of c).key) × (place ≡ padded key)

abbrev pub Sound : Session → Type 0
Sound y = Holds y.stage y.key

-- ---- what is shown

abbrev pub Followed : Type 0
Followed = (y z : Session) (xs : List Call) (ts : List CallSeen) → Ran y xs z ts → (z ≡ run y xs) × (ts ≡ seen_of y xs)

abbrev pub Answered : Type 0
Answered =
    (y : Session) (x : Call)
    → ((row x).allowed y.stage ≡ true → (moved y x).seen ≡ beneath x) × ((row x).allowed y.stage ≡ false → (moved y x).seen ≡ shown_by_lem (Err OutOfStage) x)

abbrev pub Accepted : Type 0
Accepted =
    (y : Session) (x : Call) → number (moved y x).seen ≡ 0
    → ((row x).allowed y.stage ≡ true) × ((moved y x).session ≡ (row x).leads) × ((moved y x).seen ≡ beneath x)

abbrev pub Kept : Type 0
Kept = (y : Session) (x : Call) → (number (moved y x).seen ≡ 0 → ⊥) → (moved y x).session ≡ y

abbrev pub Sounds : Type 0
Sounds = Sound idle × ((y : Session) (xs : List Call) → Sound y → Sound (run y xs))
