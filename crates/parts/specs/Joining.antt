-- Part after part is the part of both joined: 02, request e; once over n, the modulus m of the words and how a matrix enters the sums.
--   Linear T     products that add up where the matrices do
--   Joined       the part p, then the part p' behind it, is the part p ++ p'
--   SoFar        the sums of the numbers xs that have come, then the part p behind them, are those of xs ++ p
--   Nothing      an empty part changes nothing
--   WholeRight, WholeLeft   once all of A has come, the remainders of the sums are AS + E, and S'A + E'
use Rattle.std.specs.Prelude.{◌≡◌, List, [], ◌++◌, ℕ, ◌+◌, ◌*◌, ◌%◌, ◌<◌, length, get_or, ℤ}
use Rattle.lists.specs.Ranges.{Below}
use Rattle.matrix.specs.{Matrix.right_mixed, Matrix.left_mixed, Words.words_of, Words.columns_of, Words.gained, Words.reduced, Words.right_term, Words.left_term}
use Rattle.parts.specs.Parts.{placed}

pub record Linear (T : List ℕ → ℕ → ℕ → ℕ) : Type 0 where
  pub adds : (x y z : List ℕ) → ((i : ℕ) → get_or x i 0 ≡ get_or y i 0 + get_or z i 0) → (k t : ℕ) → T x k t ≡ T y k t + T z k t

abbrev pub Joined : Type 0
Joined =
    (m n : ℕ) (T : List ℕ → ℕ → ℕ → ℕ) → Linear T → (at : ℕ) (p p' ws : List ℕ) →
    gained m n (T (placed (at + length p) p')) (gained m n (T (placed at p)) ws) ≡ gained m n (T (placed at (p ++ p'))) ws

abbrev pub SoFar : Type 0
SoFar =
    (m n : ℕ) (T : List ℕ → ℕ → ℕ → ℕ) → Linear T → (xs p ws : List ℕ) →
    gained m n (T (placed (length xs) p)) (gained m n (T xs) ws) ≡ gained m n (T (xs ++ p)) ws

abbrev pub Nothing : Type 0
Nothing = (m n : ℕ) (T : List ℕ → ℕ → ℕ → ℕ) → Linear T → (at : ℕ) (ws : List ℕ) → Below m ws → gained m n (T (placed at [])) ws ≡ ws

abbrev pub WholeRight : Type 0
WholeRight =
    (m q n : ℕ) (a : List ℕ) (s e : List ℤ) → 0 < m → m % q ≡ 0 → 0 < q → length e ≡ 8 * n →
    reduced q (gained m n (right_term n a (columns_of m n s)) (words_of m e)) ≡ right_mixed q n n 8 a s e

abbrev pub WholeLeft : Type 0
WholeLeft =
    (m q n : ℕ) (a : List ℕ) (s e : List ℤ) → 0 < m → m % q ≡ 0 → 0 < q → 0 < n → length s ≡ 8 * n → length e ≡ 8 * n →
    reduced q (gained m n (left_term n n (words_of m s) a) (words_of m e)) ≡ left_mixed q n n 8 s a e
