-- Matrices of whole numbers. A matrix is its entries, by row and column; in a list it lies row after row (01, "The calls").
--   times m a b i j    the entry at row i and column j of a times b, where a has m columns and b has m rows
--   rows r c f         the list of a matrix of r rows and c columns
--   nums_at c xs i j    the entry at row i and column j of a list of numbers with c columns
--   ints_at c xs i j    that of a list of secrets or noise
-- What the two ends compute of matrices modulo q, all reduced to 0 .. q - 1. A is n by n; S and E are n by m; S' and E' are m by n; E'' is m by m. In Frodo m is 8.
--   right_mixed q r n m x s e   XS + E, X of r rows and n columns: the opener's B = AS + E
--   left_mixed q n c m s y e    SY + E, Y of n rows and c columns: the replier's B' = S'A + E' and V = S'B + E''
--   bare q n m u s             US: the initiator's W = B'S
use Rattle.std.specs.Prelude.{List, ℕ, ◌+◌, ◌*◌, ◌/◌, ◌%◌, ℤ, ◌+ℤ◌, ◌*ℤ◌}
use Rattle.numbers.specs.{Sum.sum_ℤ, Residue.residue}
use Rattle.lists.specs.Entries.{tab, nums, ints}

unfoldable pub times : ℕ → (ℕ → ℕ → ℤ) → (ℕ → ℕ → ℤ) → ℕ → ℕ → ℤ
times m a b i j = sum_ℤ m (λ t. a i t *ℤ b t j)

unfoldable pub rows : ℕ → ℕ → (ℕ → ℕ → ℕ) → List ℕ
rows r c f = tab (r * c) (λ k. f (k / c) (k % c))

unfoldable pub nums_at : ℕ → List ℕ → ℕ → ℕ → ℤ
nums_at c xs i j = nums xs (i * c + j)

unfoldable pub ints_at : ℕ → List ℤ → ℕ → ℕ → ℤ
ints_at c xs i j = ints xs (i * c + j)

unfoldable pub right_mixed : ℕ → ℕ → ℕ → ℕ → List ℕ → List ℤ → List ℤ → List ℕ
right_mixed q r n m x s e = rows r m (λ i j. residue q (times n (nums_at n x) (ints_at m s) i j +ℤ ints_at m e i j))

unfoldable pub left_mixed : ℕ → ℕ → ℕ → ℕ → List ℤ → List ℕ → List ℤ → List ℕ
left_mixed q n c m s y e = rows m c (λ i j. residue q (times n (ints_at n s) (nums_at c y) i j +ℤ ints_at c e i j))

unfoldable pub bare : ℕ → ℕ → ℕ → List ℕ → List ℤ → List ℕ
bare q n m u s = rows m m (λ i j. residue q (times n (nums_at n u) (ints_at m s) i j))
