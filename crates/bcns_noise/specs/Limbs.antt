-- Numbers of 192 bits as eight limbs of 24 bits, highest first: how the entries of a table are compared with a number.
--   byte_of table n     byte n of a table, where each word is eight bytes, highest first
--   word_bytes table    all of them
--   limbs v            the limbs of one number
--   limbs_of t k        those of entry k, which stand 56 apart
--   passes f g i m     whether the number of the m limbs of f from i on is at most that of g: from the lowest on, a limb is below the other one or, where
--                      those below it pass, equal to it
--   tally n f          how many of the first n tests are passed
--   LimbRows table n t     the first n rows of t are the limbs of the table, and what stands behind its entries is above every number
--   Compared t v k     what a comparison asks
use Rattle.std.specs.Prelude.{◌≡◌, Bool, true, List, ℕ, zero, suc, ◌+◌, ◌*◌, ◌-◌, ◌/◌, ◌%◌, ◌^◌, ◌<◌, ◌≤◌, ltb, length, get_or}
use mir.Val.{bool_byte}
use Rattle.lists.specs.{Entries.tab, Ranges.Below}
use Rattle.bcns_noise.specs.Noise.{big_endian}

unfoldable pub byte_of : List ℕ → ℕ → ℕ
byte_of table n = get_or table (n / 8) 0 / 2 ^ (56 - 8 * (n % 8)) % 256

unfoldable pub word_bytes : List ℕ → List ℕ
word_bytes table = tab (8 * length table) (byte_of table)

abbrev pub limbs : List ℕ → ℕ → ℕ
limbs v i = get_or v i 0

abbrev pub limbs_of : List ℕ → ℕ → ℕ → ℕ
limbs_of t k i = get_or t (56 * i + k) 0

unfoldable pub passes : (ℕ → ℕ) → (ℕ → ℕ) → ℕ → ℕ → Bool
passes f g i zero = true
passes f g i (suc m) = ltb (f i) (g i + bool_byte (passes f g (suc i) m))

unfoldable pub tally : ℕ → (ℕ → Bool) → ℕ
tally zero f = 0
tally (suc n) f = tally n f + bool_byte (f n)

pub record LimbRows (table : List ℕ) (n : ℕ) (t : List ℕ) : Type 0 where
  pub long : length t ≡ 448
  pub small : (j : ℕ) → get_or t j 0 ≤ 16777216
  pub laid : (k i : ℕ) → k < 51 → i < n → limbs_of t k i ≡ big_endian (word_bytes table) (24 * k + 3 * i) 3
  pub behind : (k : ℕ) → 51 ≤ k → k < 56 → limbs_of t k 0 ≡ 16777216
  pub words : 0 < n → Below (2 ^ 64) table

pub record Compared (t v : List ℕ) (k : ℕ) : Type 0 where
  pub long : length t ≡ 448
  pub eight : length v ≡ 8
  pub column : k < 56
  pub small : (n : ℕ) → get_or t n 0 ≤ 16777216
  pub below : Below 16777216 v
