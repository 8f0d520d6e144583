-- What is shown of the trace program; 10^10 is the first number of 11 digits.
--   Valid ys, Is k xs ys   schemes 0 to 5 and slacks of at most ten digits; xs is the text of at most k such exchanges
--   Exactly                a trace is read as its exchanges, and no other text is
--   Empty                  an empty trace prints nothing
--   Short                  an answer has at most 372 bytes
--   bytes, Enough          the first 53,249 bytes of a text tell its answer
use Rattle.std.specs.Prelude.{◌≡◌, List, [], ◌∷◌, ℕ, ◌^◌, ◌≤◌, ◌<◌, length, take}
use Rattle.trace.specs.Trace.{Exchange, traced, recorded, recorded_in, answered}

pub data Valid : List Exchange → Type 0 where
  none : Valid []
  some : {y : Exchange} {ys : List Exchange} → y.scheme ≤ 5 → y.slack < 10 ^ 10 → Valid ys → Valid (y ∷ ys)

pub record Is (k : ℕ) (xs : List ℕ) (ys : List Exchange) : Type 0 where
  pub text : xs ≡ traced ys
  pub valid : Valid ys
  pub few : length ys ≤ k

pub record Exactly : Type 0 where
  pub trace-read : (k : ℕ) (xs : List ℕ) (ys : List Exchange) → Is k xs ys → recorded_in k xs ≡ recorded ys
  pub no_other : (k : ℕ) (xs : List ℕ) (ys : List Exchange) → recorded_in k xs ≡ recorded ys → Is k xs ys

abbrev pub Empty : Type 0
Empty = answered [] ≡ []

abbrev pub Short : Type 0
Short = (xs : List ℕ) → length (answered xs) ≤ 372

abbrev pub bytes : ℕ
bytes = 53249

abbrev pub Enough : Type 0
Enough = (xs : List ℕ) → answered (take bytes xs) ≡ answered xs
