-- The steps on lanes are the standard's on bits.
--   lane-state                                  a state has the lanes that it is made of
--   lane_below, parity-below, offset-below      lanes and parities have 64 bits; offsets are below 64, by one computed test
--   theta-is, rho-is, pi-is, chi-is, iota-is    each step
use Rattle.lists.proofs.Kit.{refl, sym, ap, ap₂, ◌∙◌, List, ℕ, zero, suc, mod-eq_of_lt, le_of_eq, arith, bit_xor}
use Rattle.std.proofs.Common.{◌≡◌, ◌≢◌, ◌+◌, ◌-◌, ◌*◌, ◌/◌, ◌%◌, ◌^◌, ◌<◌}
use Rattle.lists.proofs.Kit.{bit_and, xor_lt, length, get_or, get_or-set_same, get_or-set_other}
use native.Mathlib.Nat.{mod-mod}
use Rattle.lists.specs.{Ranges.Below, First.first_over_lem, First.first_where}
use Rattle.lists.proofs.{Entries.tab-at, First.all-below}
use Rattle.keccak.specs.Keccak.{state, lane, rot, flip, parity, offsets, theta, rho, pi, chi, iota}
use Rattle.fips.specs.Steps.{bit, bit_at, column, θ, ρ, π, χ, ι, Lanes, Same, Everywhere}
use Rattle.fips.proofs.Bit.{bit-xor, bit-and, bit-flip, bit-rot}

pub lane-state : (f : ℕ → ℕ → ℕ) (x y : ℕ) → x < 5 → y < 5 → lane (state f) x y ≡ f x y
lane-state f x y hx hy =
    let p : (x + 5 * y) % 5 ≡ x = omega arith in
    let q : (x + 5 * y) / 5 ≡ y = omega arith in
    ap₂ (λ (u v : ℕ). get_or (state f) (u + 5 * v) 0) (mod-eq_of_lt hx) (mod-eq_of_lt hy)
    ∙ tab-at 25 (λ i. f (i % 5) (i / 5)) (x + 5 * y) 0 (omega arith)
    ∙ ap₂ f p q

pub lane_below : {a : List ℕ} → Lanes a → (x y : ℕ) → lane a x y < 2 ^ 64
lane_below h x y = h.below (x % 5 + 5 * (y % 5))

pub parity-below : {a : List ℕ} → Lanes a → (x : ℕ) → parity a x < 2 ^ 64
parity-below {a} h x =
    let l = lane a x in
    let b = lane_below h x in
    xor_lt 64 (bit_xor (bit_xor (bit_xor (l 0) (l 1)) (l 2)) (l 3)) (l 4)
    (xor_lt 64 (bit_xor (bit_xor (l 0) (l 1)) (l 2)) (l 3) (xor_lt 64 (bit_xor (l 0) (l 1)) (l 2) (xor_lt 64 (l 0) (l 1) (b 0) (b 1)) (b 2)) (b 3)) (b 4)

-- the first coordinate is read modulo 5
bit-mod : (a : List ℕ) (x y z : ℕ) → bit_at a x y z ≡ bit_at a (x % 5) y z
bit-mod a x y z = ap (λ (k : ℕ). bit z (get_or a (k + 5 * (y % 5)) 0)) (sym (mod-mod x 5))

-- ---- theta

once : (m n : ℕ) → (m + n % 2) % 2 ≡ (m + n) % 2
once m n = omega arith

-- one bit of a sum, with a number beside it
beside : (z a b n : ℕ) → (n + bit z (bit_xor a b)) % 2 ≡ (n + bit z b + bit z a) % 2
beside z a b n =
    let e : n + (bit z a + bit z b) ≡ n + bit z b + bit z a = omega arith in
    ap (λ (k : ℕ). (n + k) % 2) (bit-xor z a b) ∙ once n (bit z a + bit z b) ∙ ap (λ (k : ℕ). k % 2) e

-- a column read modulo 5, as lanes are
column-mod : (a : List ℕ) (x z : ℕ) → column (bit_at a) x z ≡ column (bit_at a) (x % 5) z
column-mod a x z = ap (λ (k : ℕ). column (λ u y z. bit z (get_or a (u + 5 * (y % 5)) 0)) k z) (sym (mod-mod x 5))

bit-parity : (a : List ℕ) (x z : ℕ) → bit z (parity a x) ≡ column (bit_at a) (x % 5) z
bit-parity a x z =
    let l = lane a x in
    let b : ℕ → ℕ = λ y. bit z (l y) in
    let s1 = bit_xor (l 0) (l 1) in
    let s2 = bit_xor s1 (l 2) in
    let s3 = bit_xor s2 (l 3) in
    let o : bit z s3 + b 4 ≡ b 4 + bit z s3 = omega arith in
    let e : b 4 + b 3 + b 2 + b 1 + b 0 ≡ b 0 + b 1 + b 2 + b 3 + b 4 = omega arith in
    bit-xor z s3 (l 4)
    ∙ ap (λ (k : ℕ). k % 2) o
    ∙ beside z s2 (l 3) (b 4)
    ∙ beside z s1 (l 2) (b 4 + b 3)
    ∙ beside z (l 0) (l 1) (b 4 + b 3 + b 2)
    ∙ ap (λ (k : ℕ). k % 2) e
    ∙ column-mod a x z

pub theta-is : Everywhere theta θ
unfolding theta θ
theta-is a h x y z hx hy hz =
    let c = parity a (x + 4) in
    let d = rot 1 (parity a (x + 1)) in
    let n = bit_at a x y z in
    let l = column (bit_at a) ((x + 4) % 5) z in
    let r = column (bit_at a) ((x + 1) % 5) ((z + 63) % 64) in
    let e : n + (l + r) ≡ n + l + r = omega arith in
    ap (bit z) (lane-state (λ x y. bit_xor (lane a x y) (bit_xor (parity a (x + 4)) (rot 1 (parity a (x + 1))))) x y hx hy)
    ∙ bit-xor z (lane a x y) (bit_xor c d)
    ∙ ap (λ (k : ℕ). (n + k) % 2) (bit-xor z c d)
    ∙ once n (bit z c + bit z d)
    ∙ ap₂ (λ (p q : ℕ). (n + (p + q)) % 2) (bit-parity a (x + 4) z)
    (bit-rot 1 z (parity a (x + 1)) (omega arith) hz (parity-below h (x + 1)) ∙ bit-parity a (x + 1) ((z + 63) % 64))
    ∙ ap (λ (k : ℕ). k % 2) e

-- ---- the others

pub offset-below : Below 64 offsets
unfolding first_over_lem first_where
offset-below = all-below 64 offsets (omega arith) (le_of_eq refl)

pub rho-is : Everywhere rho ρ
unfolding rho ρ
rho-is a h x y z hx hy hz =
    ap (bit z) (lane-state (λ x y. rot (lane offsets x y) (lane a x y)) x y hx hy)
    ∙ bit-rot (lane offsets x y) z (lane a x y) (offset-below.below (x % 5 + 5 * (y % 5))) hz (lane_below h x y)

pub pi-is : Everywhere pi π
unfolding pi π
pi-is a h x y z hx hy hz = ap (bit z) (lane-state (λ x y. lane a (x + 3 * y) x) x y hx hy) ∙ bit-mod a (x + 3 * y) x z

pub chi-is : Everywhere chi χ
unfolding chi χ
chi-is a h x y z hx hy hz =
    let b = flip (lane a (x + 1) y) in
    ap (bit z) (lane-state (λ x y. bit_xor (lane a x y) (bit_and (flip (lane a (x + 1) y)) (lane a (x + 2) y))) x y hx hy)
    ∙ bit-xor z (lane a x y) (bit_and b (lane a (x + 2) y))
    ∙ ap (λ (k : ℕ). (bit_at a x y z + k) % 2)
    (bit-and z b (lane a (x + 2) y)
    ∙ ap₂ (λ (j k : ℕ). j * k) (bit-flip z (lane a (x + 1) y) hz (lane_below h (x + 1) y) ∙ ap (λ (k : ℕ). 1 - k) (bit-mod a (x + 1) y z)) (bit-mod a (x + 2) y z))

iota-other : (rc : ℕ) (a : List ℕ) (x y z : ℕ) → x < 5 → y < 5 → x + 5 * y ≢ 0 → bit_at (iota rc a) x y z ≡ bit_at a x y z
unfolding iota
iota-other rc a x y z hx hy h = ap (bit z) (get_or-set_other a 0 (x % 5 + 5 * (y % 5)) (bit_xor (lane a 0 0) rc) 0 (λ e. h (omega arith)))

pub iota-is : (rc : ℕ) (a : List ℕ) → length a ≡ 25 → Same (bit_at (iota rc a)) (ι rc (bit_at a))
unfolding iota ι
iota-is rc a l zero zero z hx hy hz = ap (bit z) (get_or-set_same a 0 (bit_xor (lane a 0 0) rc) 0 (omega arith)) ∙ bit-xor z (lane a 0 0) rc
iota-is rc a l zero (suc y) z hx hy hz = iota-other rc a 0 (suc y) z hx hy (λ e. omega arith)
iota-is rc a l (suc x) y z hx hy hz = iota-other rc a (suc x) y z hx hy (λ e. omega arith)
