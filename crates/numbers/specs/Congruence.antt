-- Numbers that differ by a multiple of q, and numbers that are near each other around a circle of q numbers: what laws say of remainders.
--   x ≅⟨ q ⟩ y      x and y differ by a multiple of q
--   NearZero q r    r is in the range of the remainders nearest to zero: -q <= 2 r < q
--   OneNearest      `nearest` gives the one number of that range that is congruent to z
--   Close q d v w   v and w are at most d apart, by cases with neither a difference nor a minimum
--   Nearest m Marked x z    z is below m and has the mark, and of all that have it none is nearer to x around a circle of m numbers
--   LeastGap m Marked x d   some z nearest to x is that far from it
use Rattle.std.specs.Prelude.{◌≡◌, ℕ, suc, ◌+◌, ◌*◌, ◌<◌, ◌≤◌, ℤ, pos, negsuc, ◌+ℤ◌, ◌*ℤ◌}
use Rattle.numbers.specs.Residue.{nearest, apart}

infix 4 ◌≅⟨◌⟩◌
pub record ◌≅⟨◌⟩◌ (x : ℤ) (q : ℕ) (y : ℤ) : Type 0 where
  pub times : ℤ
  pub equal : x ≡ y +ℤ times *ℤ pos q

unfoldable pub NearZero : ℕ → ℤ → Type 0
NearZero q (pos m) = 2 * m < q
NearZero q (negsuc m) = 2 * suc m ≤ q

abbrev pub OneNearest : Type 0
OneNearest =
    (q : ℕ) → 0 < q → (z : ℤ) →
    NearZero q (nearest q z) × (nearest q z ≅⟨ q ⟩ z) × ((r : ℤ) → NearZero q r → r ≅⟨ q ⟩ z → r ≡ nearest q z)

-- directly, or across 0 from v's side or from w's
pub data Close (q d v w : ℕ) : Type 0 where
  direct : v ≤ w + d → w ≤ v + d → Close q d v w
  over : v + q ≤ w + d → Close q d v w
  under : w + q ≤ v + d → Close q d v w

pub record Nearest (m : ℕ) (Marked : ℕ → Type 0) (x z : ℕ) : Type 0 where
  pub below : z < m
  pub marked : Marked z
  pub nearest : (y : ℕ) → y < m → Marked y → apart m z x ≤ apart m y x

pub record LeastGap (m : ℕ) (Marked : ℕ → Type 0) (x d : ℕ) : Type 0 where
  pub z : ℕ
  pub found : Nearest m Marked x z
  pub reached : apart m z x ≡ d
