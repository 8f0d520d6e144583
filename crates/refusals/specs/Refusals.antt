-- The refusals and the tests that give them: 01, "Refusal numbers and their order", and 02.
--   number_of r, place_of r   the number and the place of a refusal
--   number_in v, place_in v   those of a verdict: 0 where all tests passed
--   Verdict, pass           what tests so far say: none has failed (pass), or the first that did
--   v then w                the first test that fails
--   length_is_lem m n            2: an input's length is not the fixed one
--   length_up_to_lem m n          2: it is over what is allowed
--   room_for_lem room n          3: an output buffer is shorter than the answer
--   in_turn b                11: it is not the turn of a part or an end (02, request e)
--   table_in_lem p n             18: entry p of a table of n entries is not above its forerunner
--   publics_in_lem q xs          4: a lent public number is q or more
--   message_in q xs          5: an unpacked message number is q or more
--   not_blank_lem part           17: a packed part is blank
--   received_in q part xs    the tests of a part that has come, with the numbers xs: 5, then 17
--   secrets_in_lem B xs          6: a secret or noise value lies beyond the largest noise
use Rattle.std.specs.Prelude.{Ok, Err, Result, Bool, cond, List, ℕ, eqb, leb, ltb, ℤ, length}
use Rattle.lists.specs.First.{first_over_lem, first_beyond_lem}
use Rattle.blank.specs.Blank.{blank}
pub use Rattle.refusals.specs.declared.Refusal.TheVariants.{NoScheme, BadLength, Short, PublicOver, MessageOver, SecretBeyond, RanOut, Misfit}
pub use Rattle.refusals.specs.declared.Refusal.TheVariants.{OutOfStage, OutOfTurn, NoRule, NewerFormat, NoStudio, Blank, NotAscending}
pub use Rattle.refusals.specs.declared.Refusal.{Refusal}

-- what tests so far say: none has failed, or the first that did
abbrev pub Verdict : Type 0
Verdict = Result Unit Refusal

abbrev pub pass : Verdict
pass = Ok tt

abbrev pub number_of : Refusal → ℕ
number_of NoScheme = 1
number_of BadLength = 2
number_of Short = 3
number_of (PublicOver k) = 4
number_of (MessageOver k) = 5
number_of (SecretBeyond k) = 6
number_of (RanOut k) = 7
number_of Misfit = 8
number_of OutOfStage = 10
number_of OutOfTurn = 11
number_of NoRule = 12
number_of NewerFormat = 15
number_of NoStudio = 16
number_of Blank = 17
number_of (NotAscending k) = 18

abbrev pub place_of : Refusal → ℕ
place_of NoScheme = 0
place_of BadLength = 0
place_of Short = 0
place_of (PublicOver k) = k
place_of (MessageOver k) = k
place_of (SecretBeyond k) = k
place_of (RanOut k) = k
place_of Misfit = 0
place_of OutOfStage = 0
place_of OutOfTurn = 0
place_of NoRule = 0
place_of NewerFormat = 0
place_of NoStudio = 0
place_of Blank = 0
place_of (NotAscending k) = k

abbrev pub number_in : Verdict → ℕ
number_in (Ok _) = 0
number_in (Err r) = number_of r

abbrev pub place_in : Verdict → ℕ
place_in (Ok _) = 0
place_in (Err r) = place_of r

infixl 20 ◌then◌
unfoldable pub ◌then◌ : Verdict → Verdict → Verdict
(Ok _) then w = w
Err r then w = Err r

unfoldable pub length_is_lem : ℕ → ℕ → Verdict
length_is_lem m n = cond (eqb m n) pass (Err BadLength)

unfoldable pub length_up_to_lem : ℕ → ℕ → Verdict
length_up_to_lem m n = cond (leb m n) pass (Err BadLength)

unfoldable pub room_for_lem : ℕ → ℕ → Verdict
room_for_lem room n = cond (leb n room) pass (Err Short)

unfoldable pub in_turn : Bool → Verdict
in_turn b = cond b pass (Err OutOfTurn)

unfoldable pub table_in_lem : ℕ → ℕ → Verdict
table_in_lem p n = cond (ltb p n) (Err (NotAscending p)) pass

unfoldable pub publics_in_lem : ℕ → List ℕ → Verdict
publics_in_lem q xs = cond (ltb (first_over_lem q xs) (length xs)) (Err (PublicOver (first_over_lem q xs))) pass

unfoldable pub message_in : ℕ → List ℕ → Verdict
message_in q xs = cond (ltb (first_over_lem q xs) (length xs)) (Err (MessageOver (first_over_lem q xs))) pass

unfoldable pub not_blank_lem : List ℕ → Verdict
not_blank_lem part = cond (blank part) (Err Blank) pass

unfoldable pub received_in : ℕ → List ℕ → List ℕ → Verdict
received_in q part xs = message_in q xs then not_blank_lem part

unfoldable pub secrets_in_lem : ℕ → List ℤ → Verdict
secrets_in_lem B xs = cond (ltb (first_beyond_lem B xs) (length xs)) (Err (SecretBeyond (first_beyond_lem B xs))) pass
