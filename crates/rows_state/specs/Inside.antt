-- What the steps of a call ask of each other, where the tests before them have passed.
--   holding n st p      the state with the part p among the numbers that are held back, and in its count
--   sums_entered k n at st    the sums, once the sixteen rows that are held back have entered them: those from entry `at` of A on
--   entered k n at st   the state with these sums
--   keeping n kept      a state of zeros but for what is kept for the end
--   Sized n st          the length of a state, and numbers that the code can count with
use Rattle.std.specs.Prelude.{◌≡◌, List, ◌∷◌, ◌++◌, ℕ, ◌+◌, ◌*◌, ◌%◌, ◌<◌, ◌≤◌, length, take, drop, replicate}
use Rattle.matrix.specs.Words.{gained}
use Rattle.parts.specs.Parts.{wrap, pairs, placed}
use Rattle.rows_state.specs.State.{long, taken, secret_of, sums_of, held_of, laid, onward, terms, held_with, Call}

unfoldable pub holding : ℕ → List ℕ → List ℕ → List ℕ
holding n st p = laid (onward n st (taken st + length p) (sums_of n st) (held_with n st p))

abbrev pub sums_entered : Call → ℕ → ℕ → List ℕ → List ℕ
sums_entered k n at st = gained wrap n (terms k n (secret_of n st) (placed at (held_of n st))) (sums_of n st)

unfoldable pub entered : Call → ℕ → ℕ → List ℕ → List ℕ
entered k n at st = take (67 + 4 * n) st ++ (pairs (sums_entered k n at st) ++ drop (67 + 8 * n) st)

abbrev pub keeping : ℕ → List ℕ → List ℕ
keeping n kept = 0 ∷ 0 ∷ 0 ∷ (kept ++ replicate (16 * n) 0)

pub record Sized (n : ℕ) (st : List ℕ) : Type 0 where
  pub some : 0 < n
  pub few : n ≤ 864
  pub sixteens : n % 16 ≡ 0
  pub long : length st ≡ long n
