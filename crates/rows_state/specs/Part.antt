-- What a part promises, of either call: 02, request e. A part is some numbers of the current row.
--   StateSeen             what is seen of a call that tells a verdict and leaves a state, as a begin and a part do: the refusal's number (0 where there is none),
--                         its place, and the state
--   state_shown v xs old   what such a call shows by the verdict v of its tests: the state xs, and after a refusal the state old
--   state_seen r after     what is seen of it where its verdict is r and the state that it leaves is after
--   part_tests k c st p    the tests of a part: 11, then 4, by the scheme that the state names
--   part_state k c st p    the state with the part
--   part_result k st p     its promise: what is seen, as a function of what is lent; refused, the state stays as it was
--   StateSeenAll          `state_seen` forgets nothing: from what is seen come the verdict and the state
use Rattle.std.specs.Prelude.{Err, Some, None, Option}
use Rattle.schemes.specs.declared.Scheme.{Scheme}
use Rattle.std.specs.Prelude.{◌≡◌, List, ℕ, length}
use Rattle.schemes.specs.{Schemes.fixed_of}
use Rattle.refusals.specs.Refusals.{number_in, place_in, ◌then◌, in_turn, publics_in_lem}
use Rattle.refusals.specs.{Seen.if_passed, Refusals.Verdict, declared.Refusal.TheVariants.OutOfTurn}
use Rattle.rows_state.specs.State.{named, taken, ◌and◌, begun, fits_in_lem, stepped, Call}

pub record StateSeen : Type 0 where
  pub number : ℕ
  pub place : ℕ
  pub state : List ℕ

unfoldable pub state_shown : Verdict → List ℕ → List ℕ → StateSeen
state_shown v xs old = record { number = number_in v; place = place_in v; state = if_passed v xs old }

unfoldable pub state_seen : Verdict → List ℕ → StateSeen
state_seen r after = record { number = number_in r; place = place_in r; state = after }

-- ---- a part

unfoldable pub part_tests : Call → Option Scheme → List ℕ → List ℕ → Verdict
part_tests k None st p = Err OutOfTurn
part_tests k (Some c) st p =
    in_turn (begun k (fixed_of c) st and fits_in_lem (fixed_of c).n (taken st) (length p))
    then publics_in_lem (fixed_of c).q p

unfoldable pub part_state : Call → Option Scheme → List ℕ → List ℕ → List ℕ
part_state k None st p = st
part_state k (Some c) st p = stepped k (fixed_of c).n st p

abbrev pub part_result : Call → List ℕ → List ℕ → StateSeen
part_result k st p = state_shown (part_tests k (named st) st p) (part_state k (named st) st p) st

-- ---- what follows

abbrev pub StateSeenAll : Type 0
StateSeenAll = (r r' : Verdict) (after after' : List ℕ) → state_seen r after ≡ state_seen r' after' → (r ≡ r') × (after ≡ after')
