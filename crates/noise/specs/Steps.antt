-- What the code's own steps promise to each other.
--   Trimmed r bs k    the first k words of the stream hold all that are taken, and the last of them is one
use Rattle.std.specs.Prelude.{◌≡◌, true, List, ℕ, ◌+◌, ◌/◌, ◌≤◌, length, take}
use Rattle.noise.specs.{Noise.word_at, Expand.Rule, Expand.words, Expand.taken}

pub record Trimmed (r : Rule) (bs : List ℕ) (k : ℕ) : Type 0 where
  pub within : k ≤ length bs / 2
  pub all : taken r (take k (words bs)) ≡ taken r (words bs)
  pub last : (i : ℕ) → i + 1 ≡ k → r.takes (word_at bs i) ≡ true
