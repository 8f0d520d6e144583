-- What holds of the number of a chain of tests, if it holds of each test's: which refusals cannot arise.
--   and, passes                           a test and those after it; a test that passes
--   lengths, rooms, publics, secrets, blanks   each kind of test
use Rattle.std.proofs.Common.{Ok, Err, ◌≡◌}
use Rattle.lists.proofs.Kit.{refl, Bool, true, false, cond, List, ℕ, eqb, leb, ltb, ℤ, length}
use Rattle.lists.specs.First.{first_over_lem, first_beyond_lem}
use Rattle.blank.specs.Blank.{blank}
use Rattle.refusals.specs.Refusals.{◌then◌, length_is_lem, room_for_lem, publics_in_lem, not_blank_lem, secrets_in_lem, number_in, Verdict, pass}

module _ (P : ℕ → Type 0) where
  pub and : (v w : Verdict) → P (number_in v) → (v ≡ pass → P (number_in w)) → P (number_in (v then w))
  unfolding ◌then◌
  and (Ok _) w a b = b refl
  and (Err r) w a b = a

  either : (t : Bool) (v w : Verdict) → P (number_in v) → P (number_in w) → P (number_in (cond t v w))
  either true v w a b = a
  either false v w a b = b

  pub passes : {v : Verdict} → v ≡ pass → P 0 → P (number_in v)
  passes e a = rw e a

  module _ (none : P 0) where
    pub lengths : P 2 → (m n : ℕ) → P (number_in (length_is_lem m n))
    unfolding length_is_lem
    lengths a m n = either (eqb m n) _ _ none a

    pub rooms : P 3 → (room n : ℕ) → P (number_in (room_for_lem room n))
    unfolding room_for_lem
    rooms a room n = either (leb n room) _ _ none a

    pub publics : P 4 → (q : ℕ) (xs : List ℕ) → P (number_in (publics_in_lem q xs))
    unfolding publics_in_lem
    publics a q xs = either (ltb (first_over_lem q xs) (length xs)) _ _ a none

    pub secrets : P 6 → (B : ℕ) (s : List ℤ) → P (number_in (secrets_in_lem B s))
    unfolding secrets_in_lem
    secrets a B s = either (ltb (first_beyond_lem B s) (length s)) _ _ a none

    pub blanks : P 17 → (part : List ℕ) → P (number_in (not_blank_lem part))
    unfolding not_blank_lem
    blanks a part = either (blank part) _ _ a none
