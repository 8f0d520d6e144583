-- Eight studios, one rack: eight records of 131 lent bytes, each its studio's number and then a session's 130 bytes: 02, request k.
--   part bs i          the bytes of slot i
--   inside bs i        those behind its number, which are a session
--   with_slot bs i s      the rack with the bytes s in slot i: what lies before and behind them stays
--   rack_is bs          10: the bytes are not as long as a rack
--   slot_tests bs i b   the tests of a slot: 16 for a number over 7, then 10 for bytes that are no rack, then 10 for a slot without its studio's number; close (b) does
--                      not look at that number
--   Owned bs i         they pass: the bytes are a rack with studio i's number in its own slot
--   Placed bs i b r     r is where slot i begins, where its tests pass, or their refusal
--   moved_in bs i x     the promise of every call of a studio: its slot's tests, and then what the call on the session's bytes leads to and shows
--   empty_rack          eight idle records with their numbers
--   ClearSeen, cleared bs   what is seen of clear, and its promise
use Rattle.std.specs.Prelude.{Err, Result, MatchResult}
use Rattle.std.specs.Prelude.{◌≡◌, Bool, true, false, cond, List, [], ◌∷◌, ◌++◌, ℕ, zero, suc, ◌*◌, eqb, ltb, length, get_or, take, drop, replicate}
use Rattle.refusals.specs.declared.Refusal.TheVariants.{OutOfStage, NoStudio}
use Rattle.refusals.specs.Refusals.{pass}
use Rattle.refusals.specs.{Refusals.number_in, Refusals.place_in, Refusals.◌then◌, Seen.if_passed, Refusals.Verdict, declared.Refusal.Refusal}
use Rattle.session.specs.{Table.Call, Seen.CallSeen, Seen.shown_by_lem, Seen.Turn, Seen.turn}
use Rattle.session_bytes.specs.Bytes.{closes, moved_bytes}

abbrev pub part : List ℕ → ℕ → List ℕ
part bs i = take 131 (drop (131 * i) bs)

abbrev pub inside : List ℕ → ℕ → List ℕ
inside bs i = drop 1 (part bs i)

abbrev pub with_slot : List ℕ → ℕ → List ℕ → List ℕ
with_slot bs i s = take (131 * i) bs ++ (s ++ drop 131 (drop (131 * i) bs))

unfoldable pub rack_is : List ℕ → Verdict
rack_is bs = cond (eqb (length bs) 1048) pass (Err OutOfStage)

unfoldable pub slot_tests : List ℕ → ℕ → Bool → Verdict
slot_tests bs i b =
    cond (ltb i 8) pass (Err NoStudio)
    then rack_is bs
    then cond (cond b true (eqb (get_or (part bs i) 0 0) i)) pass (Err OutOfStage)

abbrev pub Owned : List ℕ → ℕ → Type 0
Owned bs i = slot_tests bs i false ≡ pass

abbrev pub Placed : List ℕ → ℕ → Bool → Result ℕ Refusal → Type 0
Placed bs i b r = MatchResult r (λ at. (slot_tests bs i b ≡ pass) × (at ≡ 131 * i)) (λ q. slot_tests bs i b ≡ Err q)

abbrev pub in_rack : List ℕ → ℕ → Turn (List ℕ) CallSeen → Turn (List ℕ) CallSeen
in_rack bs i m = turn (with_slot bs i (i ∷ m.session)) m.seen

abbrev pub moved_by : Verdict → List ℕ → ℕ → Call → Turn (List ℕ) CallSeen
moved_by v bs i x = if_passed v (in_rack bs i (moved_bytes (inside bs i) x)) (turn bs (shown_by_lem v x))

unfoldable pub moved_in : List ℕ → ℕ → Call → Turn (List ℕ) CallSeen
moved_in bs i x = moved_by (slot_tests bs i (closes x)) bs i x

-- ---- clear

-- n idle records, the first with the number k
unfoldable pub empty_from : ℕ → ℕ → List ℕ
empty_from k zero = []
empty_from k (suc n) = k ∷ (replicate 130 0 ++ empty_from (suc k) n)

unfoldable pub empty_rack : List ℕ
empty_rack = empty_from 0 8

pub record ClearSeen : Type 0 where
  pub number : ℕ
  pub place : ℕ
  pub rack : List ℕ

abbrev pub cleared : List ℕ → ClearSeen
cleared bs = record { number = number_in (rack_is bs); place = place_in (rack_is bs); rack = if_passed (rack_is bs) empty_rack bs }
