-- What the fast transform computes on its way: Stockham's method, decimation in time, in numbers of 16 bits. A level takes sums of length m at the stride 2h to
-- sums of length 2m at the stride h, where m h = 512. Its entries stand in blocks of h, and block i has the power 7^(h (a + 2i)).
--   tight x                  x less the multiple of 12289 that 5 x / 2^16 tells: below 1.34 times 12289
--   factor w                 w / 12289 in 16 bits behind the point
--   powered w y              w y less the multiple of 12289 that the factor tells: below 2 times 12289
--   low w x y, high w x y    x + w y and x - w y modulo 12289: not reduced, but small
--   Half, place              the two halves of a level's entries, and where each starts
--   butterfly c src w r h    an entry of half c, of the entries of src at r and r + h and the power w
--   stored src w r h k e dst   the two of them, in the entries k and k + e of dst
--   entry c src a h k        what entry k of half c is to be, where k / h is its block
--   Butterflies src a h n dst   the first n entries of each half are so
--   Powers a h m ws fs       ws has the powers of m blocks, and fs their factors (Factors)
--   Crossed src ws h m u v n dst   the first n entries are so where entry o of block i is read at o u + i v, and written where
--                            entry o of all blocks lies side by side, first that of the first half (beside)
--   OneBlock h c k           c entries from k on lie in one block, and that in the half
--   remainders f             the remainder of each entry
--   sums a g                 what ten levels come to: entry i is the sum over j of g_j 7^(j (a + 2i))
--   scaled f                 entry k is entry 1024 - k of f times 12 7^(1024 - k)
--   reduced s                secrets or noise, each reduced to 0 .. q - 1
use Rattle.std.specs.Prelude.{◌≡◌, List, ℕ, ◌+◌, ◌-◌, ◌*◌, ◌/◌, ◌%◌, ◌^◌, ◌<◌, ◌≤◌, length, get_or, set, ℤ}
use Rattle.numbers.specs.{Sum.sum_ℕ, Residue.residue}
use Rattle.lists.specs.Entries.{tab, ints}

unfoldable pub tight : ℕ → ℕ
tight x = x - 5 * x / 65536 * 12289

unfoldable pub factor : ℕ → ℕ
factor w = 65536 * w / 12289

unfoldable pub powered : ℕ → ℕ → ℕ
powered w y = w * y - y * factor w / 65536 * 12289

unfoldable pub low : ℕ → ℕ → ℕ → ℕ
low w x y = tight x + powered w y

unfoldable pub high : ℕ → ℕ → ℕ → ℕ
high w x y = tight x + 24578 - powered w y

pub data Half : Type 0 where
  first second : Half

unfoldable pub place : Half → ℕ
place first = 0
place second = 512

unfoldable pub butterfly : Half → List ℕ → ℕ → ℕ → ℕ → ℕ
butterfly first src w r h = low w (get_or src r 0) (get_or src (r + h) 0)
butterfly second src w r h = high w (get_or src r 0) (get_or src (r + h) 0)

unfoldable pub stored : List ℕ → ℕ → ℕ → ℕ → ℕ → ℕ → List ℕ → List ℕ
stored src w r h k e dst = set (set dst k (butterfly first src w r h)) (k + e) (butterfly second src w r h)

unfoldable pub entry : Half → List ℕ → ℕ → ℕ → ℕ → ℕ
entry c src a h k = butterfly c src (7 ^ (h * (a + 2 * (k / h))) % 12289) (k + k / h * h) h

pub record Butterflies (src : List ℕ) (a h n : ℕ) (dst : List ℕ) : Type 0 where
  pub size : length dst ≡ 1024
  pub made : (c : Half) (k : ℕ) → k < n → get_or dst (k + place c) 0 ≡ entry c src a h k

pub record Factors (m : ℕ) (ws fs : List ℕ) : Type 0 where
  pub fits : m ≤ 512
  pub long : length ws ≡ 512
  pub also : length fs ≡ 512
  pub word : (i : ℕ) → i < m → get_or ws i 0 < 12289
  pub told : (i : ℕ) → i < m → get_or fs i 0 ≡ factor (get_or ws i 0)

pub record Powers (a h m : ℕ) (ws fs : List ℕ) : Type 0 where
  pub power : (i : ℕ) → i < m → get_or ws i 0 ≡ 7 ^ (h * (a + 2 * i)) % 12289
  pub factors : Factors m ws fs

unfoldable pub beside : ℕ → Half → ℕ
beside m first = 0
beside m second = m

pub record Crossed (src ws : List ℕ) (h m u v n : ℕ) (dst : List ℕ) : Type 0 where
  pub size : length dst ≡ 1024
  pub made : (c : Half) (o i : ℕ) → i < m → o * m + i < n → get_or dst (o * (2 * m) + i + beside m c) 0 ≡ butterfly c src (get_or ws i 0) (o * u + i * v) (h * u)

pub record OneBlock (h c k : ℕ) : Type 0 where
  pub block : k + c ≤ k / h * h + h
  pub half : k / h * h + h ≤ 512

unfoldable pub remainders : List ℕ → List ℕ
remainders f = tab 1024 (λ k. get_or f k 0 % 12289)

unfoldable pub sums : ℕ → List ℕ → List ℕ
sums a g = tab 1024 (λ i. sum_ℕ 1024 (λ j. get_or g j 0 * 7 ^ (j * (a + 2 * i))) % 12289)

-- 1024 - 0 is read as 0
unfoldable pub scaled : List ℕ → List ℕ
scaled f = tab 1024 (λ k. get_or f ((1024 - k) % 1024) 0 * (12 * (7 ^ (1024 - k) % 12289)) % 12289)

unfoldable pub reduced : List ℤ → List ℕ
reduced s = tab 1024 (λ k. residue 12289 (ints s k))
