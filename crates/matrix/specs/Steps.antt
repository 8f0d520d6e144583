-- How the code goes about a product, beside `Words.antt`. It works in words, which wrap at 65536: a multiple of q.
--   Shape q n r xs s    what a product asks: r rows of n numbers, or n rows of r; and 8 n secrets of which none is larger than Frodo's largest noise
--   Fit q n r xs s      and that the numbers are below q
--   turned n y          the 8 columns of Y, one after the other
--   columns_from n i c s   of a matrix of 8 rows and n columns the c columns from column i on
--   dot_term             the products of a row with column j
--   block_term, part_term   the products of a block y of rows of Y, each with its word of w, at column j; of the block that starts at row t, with the words of S,
--                       for the entry k of SY
--   block_gained w y ws  the sums ws, a row of them, with the products of the block
use Rattle.std.specs.Prelude.{◌≡◌, List, ℕ, ◌+◌, ◌*◌, ◌/◌, ◌%◌, ◌<◌, ◌≤◌, length, get_or, ℤ}
use Rattle.lists.specs.{Entries.tab, Ranges.Below, Ranges.Within}
use Rattle.matrix.specs.Words.{gained}

pub record Shape (q n r : ℕ) (xs : List ℕ) (s : List ℤ) : Type 0 where
  pub some : 0 < q
  pub room : q ≤ 32768
  pub whole : 65536 % q ≡ 0
  pub many : 0 < n
  pub few : n ≤ 864
  pub rows-many : 0 < r
  pub rows_few : r ≤ 864
  pub xs-long : length xs ≡ r * n
  pub s-long : length s ≡ 8 * n
  pub s-within : Within 6 s

pub record Fit (q n r : ℕ) (xs : List ℕ) (s : List ℤ) : Type 0 where
  pub shape : Shape q n r xs s
  pub xs-below : Below q xs

unfoldable pub turned : ℕ → List ℕ → List ℕ
turned n y = tab (8 * n) (λ k. get_or y (k % n * 8 + k / n) 0)

unfoldable pub columns_from : ℕ → ℕ → ℕ → List ℕ → List ℕ
columns_from n i c s = tab (8 * c) (λ k. get_or s (k / c * n + (i + k % c)) 0)

unfoldable pub dot_term : ℕ → List ℕ → List ℕ → ℕ → ℕ → ℕ
dot_term n row cols j t = get_or row t 0 * get_or cols (j * n + t) 0

unfoldable pub block_term : ℕ → List ℕ → List ℕ → ℕ → ℕ → ℕ
block_term c w y j u = get_or y (u * c + j) 0 * get_or w u 0

unfoldable pub part_term : ℕ → ℕ → ℕ → List ℕ → List ℕ → ℕ → ℕ → ℕ
part_term n c t s y k u = get_or y (u * c + k % c) 0 * get_or s (k / c * n + (t + u)) 0

unfoldable pub block_gained : List ℕ → List ℕ → List ℕ → List ℕ
block_gained w y ws = gained 65536 (length w) (block_term (length ws) w y) ws
