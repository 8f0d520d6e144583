-- How often each noise value comes out, counted over all words: 02, request n.
-- "over all words of 8, 12, 12 or 16 bits, each noise value of D1 to D4 comes out exactly as often as table 1 of document 001 lists it; for D4, wherever
--  the print differs, 01's thresholds decide: 19304 for 0, then 14701, 6490, 1659, 245, 20 and 1 for each sign"
--   how_often n p            how many of the numbers 0 .. n - 1 pass p
--   same y z                y and z are the same whole number
--   frequency ts m z        how many words of m + 1 bits the sampler, `threshold_of_lem`, turns into z
--   rises B ts              the thresholds ascend, and the last is at most B; equal neighbours are allowed
--   gaps B ts               how far each threshold is from the next, and the last from B
--   Occurs ts m none each   0 comes out none times; 1, 2, .. as often as each says, in order, and so do -1, -2, ..; every other value never
--   AnyTable                once over the table and the number of bits: 0 twice the first threshold, and k the k-th gap
--   TableOne                the numbers of D1 to D4
-- Beyond the request, NewHope:
--   choose n k              how many sets of k there are out of n
--   pairs n z               how many pairs of words of n bits the sampler, `ones_less_of`, turns into z
--   Binomial n              k - n comes out as often as there are sets of k out of 2n, and what lies below -n never; NewHope's words have 16 bits
--   Frequencies             all of this
use Rattle.std.specs.Prelude.{◌≡◌, Bool, true, false, cond, List, [], ◌∷◌, ℕ, zero, suc, ◌+◌, ◌*◌, ◌-◌, ◌^◌, ◌<◌, leb, eqb, ℤ, pos, negsuc, ◌-ℤ◌, get_or}
use Rattle.numbers.specs.Sum.{sum_ℕ}
use Rattle.lists.specs.First.{both}
use Rattle.noise.specs.Noise.{ones_less_of, threshold_of_lem, d1, d2, d3, d4}

unfoldable pub how_often : ℕ → (ℕ → Bool) → ℕ
how_often n p = sum_ℕ n (λ w. cond (p w) 1 0)

abbrev pub same : ℤ → ℤ → Bool
same (pos m) (pos n) = eqb m n
same (negsuc m) (negsuc n) = eqb m n
same (pos m) (negsuc n) = false
same (negsuc m) (pos n) = false

unfoldable pub frequency : List ℕ → ℕ → ℤ → ℕ
frequency ts m z = how_often (2 ^ (m + 1)) (λ w. same (threshold_of_lem ts m w) z)

abbrev pub rises : ℕ → List ℕ → Bool
rises B [] = true
rises B (x ∷ ts) = both (leb x (get_or ts 0 B)) (rises B ts)

abbrev pub gaps : ℕ → List ℕ → List ℕ
gaps B [] = []
gaps B (x ∷ ts) = (get_or ts 0 B - x) ∷ gaps B ts

pub record Occurs (ts : List ℕ) (m none : ℕ) (each : List ℕ) : Type 0 where
  pub nought : frequency ts m (pos 0) ≡ none
  pub plus : (k : ℕ) → frequency ts m (pos (suc k)) ≡ get_or each k 0
  pub minus : (k : ℕ) → frequency ts m (negsuc k) ≡ get_or each k 0

abbrev pub AnyTable : Type 0
AnyTable = (ts : List ℕ) (m : ℕ) → rises (2 ^ m) ts ≡ true → Occurs ts m (2 * get_or ts 0 (2 ^ m)) (gaps (2 ^ m) ts)

abbrev pub TableOne : Type 0
TableOne =
    Occurs d1 7 88 (61 ∷ 20 ∷ 3 ∷ [])
    × Occurs d2 11 1570 (990 ∷ 248 ∷ 24 ∷ 1 ∷ [])
    × Occurs d3 11 1206 (919 ∷ 406 ∷ 104 ∷ 15 ∷ 1 ∷ [])
    × Occurs d4 15 19304 (14701 ∷ 6490 ∷ 1659 ∷ 245 ∷ 20 ∷ 1 ∷ [])

unfoldable pub choose : ℕ → ℕ → ℕ
choose zero zero = 1
choose zero (suc k) = 0
choose (suc n) zero = 1
choose (suc n) (suc k) = choose n k + choose n (suc k)

unfoldable pub pairs : ℕ → ℤ → ℕ
pairs n z = sum_ℕ (2 ^ n) (λ v. how_often (2 ^ n) (λ w. same (ones_less_of v w) z))

pub record Binomial (n : ℕ) : Type 0 where
  pub often : (k : ℕ) → pairs n (pos k -ℤ pos n) ≡ choose (n + n) k
  pub never : (k : ℕ) → n < k → pairs n (pos 0 -ℤ pos k) ≡ 0

pub record Frequencies : Type 0 where
  pub any-table : AnyTable
  pub table-one : TableOne
  pub newhope : Binomial 16
