-- How the code forms a product: the secret, backwards, against a window of n entries of [-a | a] that moves on by one entry a coefficient.
-- Each entry stands there as two signed halves of 16 bits, 65536 h + l.
--   Fit q n a s       what a product asks, so that every sum fits 64 bits: n numbers below q, and n secrets of which none is larger than BCNS's noise
--   both n a i        entry i of [-a | a]
--   lift q x          a number below q, or that less q, whichever lies from -2147516416 to 2147450879; and 2147516416 more, so that it is not below 0
--   upper y, lower y  its two halves, each less 32768: 65536 upper + lower is the number itself
--   dot n f g         the sum of n products
--   span m w s i      that of the m entries from entry i on
--   slide n w s k     the n entries of w from entry k on, times s
--   Pair w s          halves and secrets whose products, added, fit 32 bits: the longer the lists, the smaller the secrets
-- What the steps do to the three lent slices that they work in: d holds numbers below q, t secrets and halves, o sums. What a step is given stands in
-- front, and the room for its work behind it.
--   Few n s           n numbers at most B in size, where n B is at most 51 * 1024
--   Ready q n d t     a window of 2 n numbers below q in d, and n secrets in t, small enough
--   Prepared x n t    halves of a window of 2 n numbers at x of t, and n secrets in front
--   Halved q n d t t'   the halves of the window of d laid behind the n secrets
--   Made q n w s o    o has the n sums of the window w and the secrets s, modulo q, and they fit
--   Summed R w to x n w'   the n entries at `to` with those at x added, where R a b r says that r is a + b, and the others as they were
--   Joined m o o'     the sums of the whole from those of its three products: both halves, and what is added to either
--   Windowed q n a d  [-a | a] without its first entry
use Rattle.std.specs.Prelude.{◌≡◌, List, cond, ℕ, ◌+◌, ◌-◌, ◌*◌, ◌/◌, ◌%◌, ◌^◌, ◌<◌, ◌≤◌, ltb, length, get_or, ℤ, pos, neg_ℤ, nat_abs, ◌+ℤ◌, ◌-ℤ◌, ◌*ℤ◌}
use Rattle.numbers.specs.{Sum.sum_ℤ, Congruence.◌≅⟨◌⟩◌}
use Rattle.lists.specs.{Entries.nums, Entries.ints, Ranges.Below, Ranges.Within}

pub record Fit (q n : ℕ) (a : List ℕ) (s : List ℤ) : Type 0 where
  pub some : 0 < q
  pub room : q < 2 ^ 32
  pub many : 0 < n
  pub few : n ≤ 1024
  pub a-long : length a ≡ n
  pub s-long : length s ≡ n
  pub a-below : Below q a
  pub s-within : Within 51 s

unfoldable pub both : ℕ → (ℕ → ℤ) → ℕ → ℤ
both n a i = cond (ltb i n) (neg_ℤ (a i)) (a (i - n))

unfoldable pub lift : ℕ → ℕ → ℕ
lift q x = cond (ltb x 2147450880) (x + 2147516416) (x + 2147516416 - q)

unfoldable pub upper : ℕ → ℤ
upper y = pos (y / 65536) -ℤ pos 32768

unfoldable pub lower : ℕ → ℤ
lower y = pos (y % 65536) -ℤ pos 32768

unfoldable pub dot : ℕ → (ℕ → ℤ) → (ℕ → ℤ) → ℤ
dot n f g = sum_ℤ n (λ j. f j *ℤ g j)

unfoldable pub span : ℕ → List ℤ → List ℤ → ℕ → ℤ
span m w s i = dot m (λ j. ints w (i + j)) (λ j. ints s (i + j))

unfoldable pub slide : ℕ → (ℕ → ℤ) → (ℕ → ℤ) → ℕ → ℤ
slide n w s k = dot n (λ j. w (k + j)) s

-- 52224 is 51 times 1024
pub record Pair (w s : List ℤ) : Type 0 where
  pub same : length s ≡ length w
  pub size : ℕ
  pub room : length w * size ≤ 52224
  pub w-within : Within 32768 w
  pub s-within : Within size s

pub record Few (n : ℕ) (s : ℕ → ℤ) : Type 0 where
  pub size : ℕ
  pub room : n * size ≤ 52224
  pub within : (j : ℕ) → j < n → nat_abs (s j) ≤ size

pub record Ready (q n : ℕ) (d : List ℕ) (t : List ℤ) : Type 0 where
  pub some : 0 < q
  pub modulus : q < 2 ^ 32
  pub few : n ≤ 1024
  pub below : (i : ℕ) → i < n + n → get_or d i 0 < q
  pub secrets : Few n (ints t)

pub record Prepared (x n : ℕ) (t : List ℤ) : Type 0 where
  pub long : x + (n + n) ≤ length t
  pub front : n ≤ length t
  pub halves : (i : ℕ) → i < n + n → nat_abs (ints t (x + i)) ≤ 32768
  pub secrets : Few n (ints t)

pub record Halved (q n : ℕ) (d : List ℕ) (t t' : List ℤ) : Type 0 where
  pub long : length t' ≡ length t
  pub secrets : (j : ℕ) → j < n → ints t' j ≡ ints t j
  pub high : (i : ℕ) → i < n + n → ints t' (n + i) ≡ upper (lift q (get_or d i 0))
  pub low : (i : ℕ) → i < n + n → ints t' (3 * n + i) ≡ lower (lift q (get_or d i 0))

pub record Made (q n : ℕ) (w s : ℕ → ℤ) (o : List ℤ) : Type 0 where
  pub at : (k : ℕ) → k < n → ints o k ≅⟨ q ⟩ slide n w s k
  pub size : (k : ℕ) → k < n → nat_abs (ints o k) ≤ n * 2 ^ 47

pub record Summed {A : Type 0} (R : A → A → A → Type 0) (w : List A) (to x n : ℕ) (w' : List A) : Type 0 where
  pub long : length w' ≡ length w
  pub inside : (z : A) (k : ℕ) → k < n → R (get_or w (to + k) z) (get_or w (x + k) z) (get_or w' (to + k) z)
  pub below : (z : A) (i : ℕ) → i < to → get_or w' i z ≡ get_or w i z
  pub above : (z : A) (i : ℕ) → to + n ≤ i → get_or w' i z ≡ get_or w i z

pub record Joined (m : ℕ) (o o' : List ℤ) : Type 0 where
  pub low : (k : ℕ) → k < m → ints o' k ≡ ints o k +ℤ ints o (m + m + k)
  pub high : (k : ℕ) → k < m → ints o' (m + k) ≡ ints o (m + k) +ℤ ints o (m + m + k)

pub record Windowed (q n : ℕ) (a d : List ℕ) : Type 0 where
  pub at : (i : ℕ) → i + 1 < n + n → nums d i ≅⟨ q ⟩ both n (nums a) (i + 1)
  pub below : (i : ℕ) → i < n + n → get_or d i 0 < q
