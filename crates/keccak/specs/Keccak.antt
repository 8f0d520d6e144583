-- Keccak-f[1600]: FIPS 202, section 3. A state is the list of its 25 lanes; the standard's bit A[x, y, z] is bit z, of weight 2^z, of the lane at x + 5y.
--   rot n a, flip a      a lane turned by n places (bit z goes to z + n modulo 64), and with every bit flipped
--   state f, lane a x y  the state whose lane (x, y) is f x y, and the lane of a state at x and y modulo 5
--   parity a x           3.2.1: the parities C[x] of the columns
--   theta, rho, pi, chi, iota   3.2.1 to 3.2.5: the step mappings; iota by the round's constant
--   round, rounds        3.3: a round, and one after the other by their constants
--   keccak_f a            3.4: the 24 rounds of Keccak-f[1600]
--   offsets, constants   the tables of rho and iota
use Rattle.std.specs.Prelude.{List, [], ◌∷◌, ℕ, zero, suc, ◌+◌, ◌-◌, ◌*◌, ◌/◌, ◌%◌, ◌^◌, bit_xor, get_or, set}
use Rattle.std.specs.Int.Bits.{bit_and, bit_or}
use Rattle.lists.specs.Entries.{tab}

abbrev pub rot : ℕ → ℕ → ℕ
rot zero a = a
rot (suc n) a = bit_or (a * 2 ^ suc n % 2 ^ 64) (a / 2 ^ (64 - suc n))

abbrev pub flip : ℕ → ℕ
flip a = 2 ^ 64 - 1 - a

abbrev pub state : (ℕ → ℕ → ℕ) → List ℕ
state f = tab 25 (λ i. f (i % 5) (i / 5))

abbrev pub lane : List ℕ → ℕ → ℕ → ℕ
lane a x y = get_or a (x % 5 + 5 * (y % 5)) 0

-- ---- 3.2: the step mappings; x - 1 is x + 4 modulo 5

abbrev pub parity : List ℕ → ℕ → ℕ
parity a x = bit_xor (bit_xor (bit_xor (bit_xor (lane a x 0) (lane a x 1)) (lane a x 2)) (lane a x 3)) (lane a x 4)

unfoldable pub theta : List ℕ → List ℕ
theta a = state (λ x y. bit_xor (lane a x y) (bit_xor (parity a (x + 4)) (rot 1 (parity a (x + 1)))))

-- a line for each y, from 0 up; in a line x from 0 up
abbrev pub offsets : List ℕ
offsets =
    0 ∷ 1 ∷ 62 ∷ 28 ∷ 27 ∷
    36 ∷ 44 ∷ 6 ∷ 55 ∷ 20 ∷
    3 ∷ 10 ∷ 43 ∷ 25 ∷ 39 ∷
    41 ∷ 45 ∷ 15 ∷ 21 ∷ 8 ∷
    18 ∷ 2 ∷ 61 ∷ 56 ∷ 14 ∷ []

unfoldable pub rho : List ℕ → List ℕ
rho a = state (λ x y. rot (lane offsets x y) (lane a x y))

unfoldable pub pi : List ℕ → List ℕ
pi a = state (λ x y. lane a (x + 3 * y) x)

unfoldable pub chi : List ℕ → List ℕ
chi a = state (λ x y. bit_xor (lane a x y) (bit_and (flip (lane a (x + 1) y)) (lane a (x + 2) y)))

unfoldable pub iota : ℕ → List ℕ → List ℕ
iota rc a = set a 0 (bit_xor (lane a 0 0) rc)

-- ---- 3.3 and 3.4: the rounds

unfoldable pub round : ℕ → List ℕ → List ℕ
round rc a = iota rc (chi (pi (rho (theta a))))

unfoldable pub rounds : List ℕ → List ℕ → List ℕ
rounds [] a = a
rounds (rc ∷ rcs) a = rounds rcs (round rc a)

abbrev pub constants : List ℕ
constants =
    1 ∷ 32898 ∷ 9223372036854808714 ∷ 9223372039002292224 ∷ 32907 ∷ 2147483649 ∷ 9223372039002292353 ∷ 9223372036854808585 ∷ 138 ∷ 136 ∷
    2147516425 ∷ 2147483658 ∷ 2147516555 ∷ 9223372036854775947 ∷ 9223372036854808713 ∷ 9223372036854808579 ∷ 9223372036854808578 ∷
    9223372036854775936 ∷ 32778 ∷ 9223372039002259466 ∷ 9223372039002292353 ∷ 9223372036854808704 ∷ 2147483649 ∷ 9223372039002292232 ∷ []

unfoldable pub keccak_f : List ℕ → List ℕ
keccak_f a = rounds constants a
