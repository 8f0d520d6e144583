-- What the steps of a product by halves do to the one lent slice w that they work in: it holds the factors, their product and the room for it.
--   full a b k            the coefficient at X^k of a times b, nothing folded
--   cut n a               the first n coefficients of a, and then 0
--   Size n                n is 32 times a power of two
--   from w o              the numbers of w from entry o on
--   times w n x y         the full product, modulo q, of the n numbers at x with the n numbers at y
--   term w m u            what number u of the 32 at 0 gives to column m of their full product with the 32 at 32
--   Cell s i l h          s, of i products, by the sums of their low 33 bits and of the others
--   Rows w i lows highs   the 64 columns, of the first i numbers at 0
--   Padded w b            the 32 numbers at 32, with a zero on either side
--   Ahead x to n          the n numbers at x are read, in order, before those at `to` are written over
--   Product w n w'        two factors of n numbers at the front of w have become their full product
--   InPart w at h w'      two factors of h numbers at `at` have become their full product, in 6 h numbers, with all others as they were
--   Spread w h w'         two factors of 2 h numbers have become three pairs of h: lower halves, upper halves, sums
--   middle w h            the product of the sums less the two others
--   Joined w h w'         the three products of 2 h numbers have become one of 4 h
--   Fit n a b m           n numbers in each factor, and a scratch of m numbers that is large enough
use Rattle.std.specs.Prelude.{◌≡◌, cond, List, ℕ, suc, ◌+◌, ◌-◌, ◌*◌, ◌%◌, ◌<◌, ◌≤◌, ltb, length, get_or}
use Rattle.numbers.specs.Sum.{sum_ℕ}
use Rattle.lists.specs.Ranges.{Below}
use Rattle.halves.specs.Halves.{q}

unfoldable pub full : (ℕ → ℕ) → (ℕ → ℕ) → ℕ → ℕ
full a b k = sum_ℕ (suc k) (λ u. a u * b (k - u))

unfoldable pub cut : ℕ → (ℕ → ℕ) → ℕ → ℕ
cut n a k = cond (ltb k n) (a k) 0

pub data Size : ℕ → Type 0 where
  least : Size 32
  twice : {h : ℕ} → Size h → Size (h + h)

abbrev pub from : List ℕ → ℕ → ℕ → ℕ
from w o k = get_or w (o + k) 0

unfoldable pub times : List ℕ → ℕ → ℕ → ℕ → ℕ → ℕ
times w n x y k = full (cut n (from w x)) (cut n (from w y)) k % q

unfoldable pub term : List ℕ → ℕ → ℕ → ℕ
term w m u = from w 0 u * cond (ltb m u) 0 (cut 32 (from w 32) (m - u))

pub record Cell (s i l h : ℕ) : Type 0 where
  pub made : l + 8589934592 * h ≡ s
  pub low : l ≤ 8589934592 * i
  pub high : h ≤ 2147483648 * i

pub record Rows (w : List ℕ) (i : ℕ) (lows highs : List ℕ) : Type 0 where
  pub lows-long : length lows ≡ 64
  pub highs-long : length highs ≡ 64
  pub at : (m : ℕ) → m < 64 → Cell (sum_ℕ i (term w m)) i (get_or lows m 0) (get_or highs m 0)

pub record Padded (w b : List ℕ) : Type 0 where
  pub long : length b ≡ 34
  pub at : (k : ℕ) → k < 33 → get_or b (k + 1) 0 ≡ cut 32 (from w 32) k
  pub first : get_or b 0 0 ≡ 0
  pub small : Below 4294967296 b

pub record Ahead (x to n : ℕ) : Type 0 where
  pub ahead : (i j : ℕ) → j < i → i < n → (x + i ≡ to + j) → ⊥

pub record Product (w : List ℕ) (n : ℕ) (w' : List ℕ) : Type 0 where
  pub long : length w' ≡ length w
  pub at : (k : ℕ) → k < n + n → get_or w' k 0 ≡ times w n 0 n k

pub record InPart (w : List ℕ) (at h : ℕ) (w' : List ℕ) : Type 0 where
  pub long : length w' ≡ length w
  pub inside : (k : ℕ) → k < h + h → get_or w' (at + k) 0 ≡ times w h at (at + h) k
  pub below : (i : ℕ) → i < at → get_or w' i 0 ≡ get_or w i 0
  pub above : (i : ℕ) → at + 6 * h ≤ i → get_or w' i 0 ≡ get_or w i 0

pub record Spread (w : List ℕ) (h : ℕ) (w' : List ℕ) : Type 0 where
  pub long : length w' ≡ length w
  pub a-low : (k : ℕ) → k < h → get_or w' k 0 ≡ get_or w k 0
  pub b-low : (k : ℕ) → k < h → get_or w' (h + k) 0 ≡ get_or w (2 * h + k) 0
  pub a-high : (k : ℕ) → k < h → get_or w' (2 * h + k) 0 ≡ get_or w (h + k) 0
  pub b-high : (k : ℕ) → k < h → get_or w' (3 * h + k) 0 ≡ get_or w (3 * h + k) 0
  pub a_sum : (k : ℕ) → k < h → get_or w' (4 * h + k) 0 ≡ (get_or w k 0 + get_or w (h + k) 0) % q
  pub b-sum : (k : ℕ) → k < h → get_or w' (5 * h + k) 0 ≡ (get_or w (2 * h + k) 0 + get_or w (3 * h + k) 0) % q

abbrev pub middle : List ℕ → ℕ → ℕ → ℕ
middle w h k = (get_or w (10 * h + k) 0 + (q - get_or w k 0) + (q - get_or w (2 * h + k) 0)) % q

pub record Joined (w : List ℕ) (h : ℕ) (w' : List ℕ) : Type 0 where
  pub long : length w' ≡ length w
  pub low : (k : ℕ) → k < h → get_or w' k 0 ≡ get_or w k 0
  pub mid : (k : ℕ) → k < h + h → get_or w' (h + k) 0 ≡ (get_or w (h + k) 0 + middle w h k) % q
  pub high : (k : ℕ) → 3 * h ≤ k → k < 4 * h → get_or w' k 0 ≡ get_or w k 0

pub record Fit (n : ℕ) (a b : List ℕ) (m : ℕ) : Type 0 where
  pub size : Size n
  pub a-long : length a ≡ n
  pub b-long : length b ≡ n
  pub works : 6 * n ≤ m
