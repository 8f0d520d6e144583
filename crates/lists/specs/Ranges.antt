-- What laws and the steps of the code say of a list: the ranges of its entries, and entries that are written in order at one place.
--   Below q xs             every number is below q
--   Within B xs            no secret or noise value lies further than B from 0
--   Stored z w to n f w'   the n entries at `to` are now f 0, .., f (n - 1), and the others as they were
use Rattle.std.specs.Prelude.{◌≡◌, List, ℕ, ◌+◌, ◌<◌, ◌≤◌, ℤ, pos, nat_abs, length, get_or}

pub record Below (q : ℕ) (xs : List ℕ) : Type 0 where
  pub below : (k : ℕ) → get_or xs k 0 < q

pub record Within (B : ℕ) (xs : List ℤ) : Type 0 where
  pub within : (k : ℕ) → nat_abs (get_or xs k (pos 0)) ≤ B

pub record Stored {A : Type 0} (z : A) (w : List A) (to n : ℕ) (f : ℕ → A) (w' : List A) : Type 0 where
  pub long : length w' ≡ length w
  pub inside : (k : ℕ) → k < n → get_or w' (to + k) z ≡ f k
  pub below : (i : ℕ) → i < to → get_or w' i z ≡ get_or w i z
  pub above : (i : ℕ) → to + n ≤ i → get_or w' i z ≡ get_or w i z
