-- Frodo's running sums, where A comes in parts: 02, request e. The secret, the sums and the rows of A that are held back are words of 16 bits, as in crate
-- `matrix`, whose `Words.antt` serves here; two of them stand in one number of 32 bits.
--   wrap          2^16, where words wrap: a multiple of every q
--   words xs      the words of numbers: of each the lower one, and then the upper one
--   pairs ws      words, two in each number
--   placed at p   the matrix that holds the numbers p from entry `at` on, and zeros elsewhere: a list reads 0 past its end
use Rattle.std.specs.Prelude.{List, [], ◌∷◌, ◌++◌, ℕ, ◌+◌, ◌*◌, ◌/◌, ◌%◌, length, get_or, replicate}
use Rattle.lists.specs.Entries.{tab}

abbrev pub wrap : ℕ
wrap = 65536

unfoldable pub words : List ℕ → List ℕ
words [] = []
words (x ∷ xs) = x % wrap ∷ x / wrap ∷ words xs

unfoldable pub pairs : List ℕ → List ℕ
pairs ws = tab (length ws / 2) (λ k. get_or ws (2 * k) 0 + wrap * get_or ws (2 * k + 1) 0)

unfoldable pub placed : ℕ → List ℕ → List ℕ
placed at p = replicate at 0 ++ p
