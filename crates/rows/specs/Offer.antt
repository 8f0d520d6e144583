-- What begin and end of Offer promise: 02, request e.
--   OfferBegin                what begin is lent: secret s, noise e, seed
--   offer_begin_tests c x m     its tests in 01's order, for a state of m numbers: 1 (here not 2 to 5), 2, the state's length last, and 6
--   offer_state c x            the state that it leaves
--   offer_begin_result c x m    its promise: what is seen, as a function of what is lent; refused, the state is zeros
--   EndSeen A                 what is seen of an end: of its answer and its outputs A, and the state
--   sent_numbers c st          what is about to be sent: the remainders of the sums; sent_part: packed
--   offer_end_tests c st n      the tests of end, with room for n bytes: 11, 3, and 17 for that part
--   offer_end_message c st      the opening message: the seed and that part
--   offer_end_result st n       its promise, likewise: the state is zeros; refused, it stays as it was
--   offer_begin_lem, offer_begin_of  what is lent, from the slices of a contract, and from lists
use Rattle.std.specs.Prelude.{Err, Some, None, Option, List, [], ◌++◌, ℕ, ℤ, length, take, replicate}
use Rattle.schemes.specs.{Schemes.fixed_of, declared.Scheme.Scheme}
use Rattle.packing.specs.Packing.{packed}
use Rattle.matrix.specs.Words.{reduced}
use Rattle.refusals.specs.Refusals.{◌then◌, length_is_lem, room_for_lem, in_turn, not_blank_lem, secrets_in_lem}
use Rattle.refusals.specs.declared.Refusal.TheVariants.{NoScheme, OutOfTurn}
use Rattle.refusals.specs.{Seen.if_passed, Seen.Seen, Seen.shown, Refusals.Verdict}
use Rattle.wire.specs.Wire.{opening}
use Rattle.rows_state.specs.State.{long, named, saved_of, sums_of, laid, fresh, complete}
use Rattle.rows_state.specs.{Part.StateSeen, Part.state_shown, declared.Call.Call}

-- ---- begin

pub record OfferBegin : Type 0 where
  pub s : List ℤ
  pub e : List ℤ
  pub seed : List ℕ

unfoldable pub offer_begin_tests : Option Scheme → OfferBegin → ℕ → Verdict
offer_begin_tests None x m = Err NoScheme
offer_begin_tests (Some c) x m =
    length_is_lem (length x.s) (fixed_of c).secret
    then length_is_lem (length x.e) (fixed_of c).noise
    then length_is_lem (length x.seed) (fixed_of c).seed
    then length_is_lem m (long (fixed_of c).n)
    then secrets_in_lem (fixed_of c).largest x.s
    then secrets_in_lem (fixed_of c).largest x.e

unfoldable pub offer_state : Option Scheme → OfferBegin → List ℕ
offer_state None x = []
offer_state (Some c) x = laid (fresh Call.Offer c (x.seed ++ replicate 48 0) x.s x.e)

abbrev pub offer_begin_result : Option Scheme → OfferBegin → ℕ → StateSeen
offer_begin_result c x m = state_shown (offer_begin_tests c x m) (offer_state c x) (replicate m 0)

-- ---- end

pub record EndSeen (A : Type 0) : Type 0 where
  pub answer : A
  pub state : List ℕ

abbrev pub sent_numbers : Scheme → List ℕ → List ℕ
sent_numbers c st = reduced (fixed_of c).q (sums_of (fixed_of c).n st)

abbrev pub sent_part : Scheme → List ℕ → List ℕ
sent_part c st = packed (fixed_of c).width (sent_numbers c st)

unfoldable pub offer_end_tests : Option Scheme → List ℕ → ℕ → Verdict
offer_end_tests None st n = Err OutOfTurn
offer_end_tests (Some c) st n =
    in_turn (complete Call.Offer (fixed_of c) st)
    then room_for_lem n (fixed_of c).opening
    then not_blank_lem (sent_part c st)

unfoldable pub offer_end_message : Option Scheme → List ℕ → List ℕ
offer_end_message None st = []
offer_end_message (Some c) st = opening c (take 16 (saved_of st)) (sent_part c st)

abbrev pub offer_end_result : List ℕ → ℕ → EndSeen (Seen ℕ)
offer_end_result st n =
    let v = offer_end_tests (named st) st n in
    record { answer = shown v (offer_end_message (named st) st) 0 n; state = if_passed v (replicate (length st) 0) st }

-- ---- of a call

abbrev pub offer_begin_of : List ℤ → List ℤ → List ℕ → OfferBegin
offer_begin_of s e seed = record { s = s; e = e; seed = seed }

abbrev pub offer_begin_lem : List ℤ → List ℤ → List ℕ → OfferBegin
offer_begin_lem s e seed = offer_begin_of s e seed
