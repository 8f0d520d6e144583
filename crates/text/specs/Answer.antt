-- A program's answer, as it stands in the room that it is lent.
--   Answers room xs r out   out, of that many bytes, holds the text xs and zeros behind it, and r is how many bytes xs has
--   OneAnswer               no two results satisfy it
use Rattle.std.specs.Prelude.{◌≡◌, List, ◌++◌, ℕ, ◌-◌, length, replicate}

pub record Answers (room : ℕ) (xs : List ℕ) (r : ℕ) (out : List ℕ) : Type 0 where
  pub count : r ≡ length xs
  pub holds : out ≡ xs ++ replicate (room - r) 0

abbrev pub OneAnswer : Type 0
OneAnswer =
    (room : ℕ) (xs : List ℕ) (r s : ℕ) (out other : List ℕ) → Answers room xs r out → Answers room xs s other → (r ≡ s) × (out ≡ other)
