-- A product in words, which wrap at a multiple m of q: sums start as the noise, gain n products each, and are reduced once. In Frodo m is 65536.
--   words_of m zs        secrets or noise as words: their remainders modulo m
--   gained m n f ws     the sums ws, of which sum k has gained f k 0 + .. + f k (n - 1)
--   reduced q ws        the remainders of the sums in 0 .. q - 1
--   columns_of m n s     the 8 columns of S, one after the other, as words
--   right_term, left_term the products for the entry k of XS, and for the entry k of SY
use Rattle.std.specs.Prelude.{List, ℕ, ◌+◌, ◌*◌, ◌/◌, ◌%◌, length, get_or, ℤ}
use Rattle.numbers.specs.{Sum.sum_ℕ, Residue.residue}
use Rattle.lists.specs.Entries.{tab, ints}

unfoldable pub words_of : ℕ → List ℤ → List ℕ
words_of m zs = tab (length zs) (λ k. residue m (ints zs k))

unfoldable pub gained : ℕ → ℕ → (ℕ → ℕ → ℕ) → List ℕ → List ℕ
gained m n f ws = tab (length ws) (λ k. (get_or ws k 0 + sum_ℕ n (f k)) % m)

unfoldable pub reduced : ℕ → List ℕ → List ℕ
reduced q ws = tab (length ws) (λ k. get_or ws k 0 % q)

unfoldable pub columns_of : ℕ → ℕ → List ℤ → List ℕ
columns_of m n s = tab (8 * n) (λ k. residue m (ints s (k % n * 8 + k / n)))

unfoldable pub right_term : ℕ → List ℕ → List ℕ → ℕ → ℕ → ℕ
right_term n x cols k t = get_or x (k / 8 * n + t) 0 * get_or cols (k % 8 * n + t) 0

unfoldable pub left_term : ℕ → ℕ → List ℕ → List ℕ → ℕ → ℕ → ℕ
left_term n c s y k t = get_or y (t * c + k % c) 0 * get_or s (k / c * n + t) 0
