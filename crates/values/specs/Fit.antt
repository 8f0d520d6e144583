-- What the work asks of its inputs: the counts and ranges that a call's tests have passed.
--   Counted m q xs   m numbers below q
--   Small m B xs     m secrets or noise values of which none lies further than B from 0
use Rattle.std.specs.Prelude.{◌≡◌, List, ℕ, length, ℤ}
use Rattle.lists.specs.Ranges.{Below, Within}

pub record Counted (m q : ℕ) (xs : List ℕ) : Type 0 where
  pub long : length xs ≡ m
  pub below : Below q xs

pub record Small (m B : ℕ) (xs : List ℤ) : Type 0 where
  pub long : length xs ≡ m
  pub within : Within B xs
