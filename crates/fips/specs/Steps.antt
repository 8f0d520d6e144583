-- The step mappings of FIPS 202, 3.2, and the rounds of 3.3 and 3.4, bit by bit, in the standard's own formulas: ⊕ is the sum modulo 2, and a difference modulo n
-- has n added.
--   Array                  A[x, y, z], for x and y below 5 and z below 64
--   column A x z           3.2.1: C[x, z]
--   θ, ρ, π, χ             3.2.1 to 3.2.4
--   bit z a                bit z of a number
--   ι rc                   3.2.5: the round's constant is added to the lane (0, 0), and the others stay
--   rnd rc, rnds rcs       3.3: a round, and one after the other by their constants
--   keccak_p                3.4: the 24 rounds of KECCAK-p[1600, 24]
-- What is shown of the steps on lanes:
--   bit_at a                the array of 25 lanes
--   Lanes a                every lane has 64 bits
--   Same A B               two arrays have the same bits
--   Everywhere step f      the array after a step on lanes is f of the array before
--   KeccakIs               all rounds on lanes, one after the other, are the standard's
use Rattle.std.specs.Prelude.{◌≡◌, List, [], ◌∷◌, ℕ, zero, suc, ◌+◌, ◌-◌, ◌*◌, ◌/◌, ◌%◌, ◌^◌, ◌<◌}
use Rattle.lists.specs.Ranges.{Below}
use Rattle.keccak.specs.Keccak.{lane, offsets, constants, keccak_f}

-- ---- the standard's

abbrev pub Array : Type 0
Array = ℕ → ℕ → ℕ → ℕ

abbrev pub column : Array → ℕ → ℕ → ℕ
column A x z = (A x 0 z + A x 1 z + A x 2 z + A x 3 z + A x 4 z) % 2

unfoldable pub θ : Array → Array
θ A x y z = (A x y z + column A ((x + 4) % 5) z + column A ((x + 1) % 5) ((z + 63) % 64)) % 2

unfoldable pub ρ : Array → Array
ρ A x y z = A x y ((z + (64 - lane offsets x y)) % 64)

unfoldable pub π : Array → Array
π A x y z = A ((x + 3 * y) % 5) x z

unfoldable pub χ : Array → Array
χ A x y z = (A x y z + (1 - A ((x + 1) % 5) y z) * A ((x + 2) % 5) y z) % 2

abbrev pub bit : ℕ → ℕ → ℕ
bit z a = a / 2 ^ z % 2

unfoldable pub ι : ℕ → Array → Array
ι rc A zero zero z = (A 0 0 z + bit z rc) % 2
ι rc A zero (suc y) z = A 0 (suc y) z
ι rc A (suc x) y z = A (suc x) y z

unfoldable pub rnd : ℕ → Array → Array
rnd rc A = ι rc (χ (π (ρ (θ A))))

unfoldable pub rnds : List ℕ → Array → Array
rnds [] A = A
rnds (rc ∷ rcs) A = rnds rcs (rnd rc A)

unfoldable pub keccak_p : Array → Array
keccak_p A = rnds constants A

-- ---- the steps on lanes

abbrev pub bit_at : List ℕ → Array
bit_at a x y z = bit z (lane a x y)

abbrev pub Lanes : List ℕ → Type 0
Lanes a = Below (2 ^ 64) a

abbrev pub Same : Array → Array → Type 0
Same A B = (x y z : ℕ) → x < 5 → y < 5 → z < 64 → A x y z ≡ B x y z

abbrev pub Everywhere : (List ℕ → List ℕ) → (Array → Array) → Type 0
Everywhere step f = (a : List ℕ) → Lanes a → Same (bit_at (step a)) (f (bit_at a))

abbrev pub KeccakIs : Type 0
KeccakIs = Everywhere keccak_f keccak_p
