-- What the steps of the writer give each other.
--   size_of n     how long the text with a label of n bytes is
use Rattle.std.specs.Prelude.{cond, ℕ, ◌+◌, eqb}

-- three lines of 26 bytes, and 7 bytes beside a label
abbrev pub size_of : ℕ → ℕ
size_of n = cond (eqb n 0) 26 (33 + n)
