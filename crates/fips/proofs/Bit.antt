-- One bit of what the operations on lanes give.
--   bit-lt                     it is 0 or 1
--   bit-suc, bit-low           of a half, and of the low part
--   bit-xor, bit-and, bit-flip, bit-rot   of two lanes added, of two multiplied, of one flipped, and of one turned
use Rattle.lists.proofs.Kit.{refl, sym, ap, ap₂, ◌∙◌, ⊎_elim, ℕ, zero, suc, min, mod-lt, mod-eq_of_lt}
use Rattle.std.proofs.Common.{◌≡◌, ◌+◌, ◌-◌, ◌*◌, ◌/◌, ◌%◌, ◌^◌, ◌≤◌, ◌<◌}
use Rattle.lists.proofs.Kit.{mul-mod_left, add-zero, pow-suc, div-one, arith, digits_mod, bit_xor, bit_and, bit_or, shr-shr, shr_lt, shl-shr, mod-pow-add, field}
use native.Mathlib.Nat.{eq-zero-or-pos}
use lib.{Bits.differ, Bits.xor_step, Bits.xor_shr, Bits.and_step, Bits.and_shr, Bits.or_shifted, Pow.mod-mod-pow, Pow.high, Pow.low}
use Rattle.keccak.specs.Keccak.{rot, flip}
use Rattle.fips.specs.Steps.{bit}

pub bit-lt : (z a : ℕ) → bit z a < 2
bit-lt z a = mod-lt (a / 2 ^ z) (omega arith)

odd : (n r : ℕ) → (n * 2 + r) % 2 ≡ r % 2
odd n r = omega arith

-- ---- an operation that goes bit by bit, once for both

module _ (op low : ℕ → ℕ → ℕ) (shr : (a b k : ℕ) → op a b / 2 ^ k ≡ op (a / 2 ^ k) (b / 2 ^ k))
    (step : (a b : ℕ) → op a b ≡ op (a / 2) (b / 2) * 2 + low (a % 2) (b % 2)) (rule : ℕ → ℕ → ℕ)
    (bits : (x y : ℕ) → x < 2 → y < 2 → low x y % 2 ≡ rule x y) where
  bit-op : (z a b : ℕ) → bit z (op a b) ≡ rule (bit z a) (bit z b)
  bit-op z a b =
      let p = a / 2 ^ z in
      let q = b / 2 ^ z in
      ap (λ (k : ℕ). k % 2) (shr a b z ∙ step p q) ∙ odd (op (p / 2) (q / 2)) (low (p % 2) (q % 2)) ∙ bits (p % 2) (q % 2) (bit-lt z a) (bit-lt z b)

differ-bits : (x y : ℕ) → x < 2 → y < 2 → differ x y % 2 ≡ (x + y) % 2
differ-bits zero y hx hy = ap (λ (k : ℕ). k % 2) (omega arith)
differ-bits (suc zero) zero hx hy = refl
differ-bits (suc zero) (suc zero) hx hy = refl
differ-bits (suc zero) (suc (suc y)) hx hy = absurd (omega arith)
differ-bits (suc (suc x)) y hx hy = absurd (omega arith)

min-bits : (x y : ℕ) → x < 2 → y < 2 → min x y % 2 ≡ x * y
min-bits zero y hx hy = omega arith
min-bits (suc zero) zero hx hy = refl
min-bits (suc zero) (suc zero) hx hy = refl
min-bits (suc zero) (suc (suc y)) hx hy = absurd (omega arith)
min-bits (suc (suc x)) y hx hy = absurd (omega arith)

pub bit-xor : (z a b : ℕ) → bit z (bit_xor a b) ≡ (bit z a + bit z b) % 2
bit-xor z a b = bit-op bit_xor differ xor_shr xor_step (λ x y. (x + y) % 2) differ-bits z a b

pub bit-and : (z a b : ℕ) → bit z (bit_and a b) ≡ bit z a * bit z b
bit-and z a b = bit-op bit_and min and_shr and_step (λ x y. x * y) min-bits z a b

-- ---- every bit flipped

pub bit-suc : (z x : ℕ) → bit (suc z) x ≡ bit z (x / 2)
bit-suc z x = let e : suc z ≡ 1 + z = omega arith in ap (λ k. x / 2 ^ k % 2) e ∙ ap (λ k. k % 2) (sym (shr-shr x 1 z))

flip-odd : (p a : ℕ) → a < p * 2 → ((p * 2 - 1) - a) % 2 ≡ 1 - a % 2
flip-odd p a h =
    let e : (p * 2 - 1) - a ≡ (p - 1 - a / 2) * 2 + (1 - a % 2) = omega arith in
    ap (λ x. x % 2) e ∙ odd (p - 1 - a / 2) (1 - a % 2) ∙ mod-eq_of_lt (omega arith)

flip-bit : (k z a : ℕ) → z < k → a < 2 ^ k → bit z ((2 ^ k - 1) - a) ≡ 1 - bit z a
flip-bit zero z a hz h = absurd (omega arith)
flip-bit (suc k) zero a hz h =
    ap (λ x. x % 2) (div-one ((2 ^ suc k - 1) - a)) ∙ ap (λ p. ((p - 1) - a) % 2) (pow-suc 2 k) ∙ flip-odd (2 ^ k) a (rw (← pow-suc 2 k) h)
    ∙ ap (λ x. 1 - x % 2) (sym (div-one a))
flip-bit (suc k) (suc z) a hz h =
    let e = pow-suc 2 k in
    let p : ((2 ^ suc k - 1) - a) / 2 ≡ (2 ^ k - 1) - a / 2 = omega arith in
    bit-suc z ((2 ^ suc k - 1) - a) ∙ ap (bit z) p ∙ flip-bit k z (a / 2) (omega arith) (omega arith) ∙ ap (λ b. 1 - b) (sym (bit-suc z a))

pub bit-flip : (z a : ℕ) → z < 64 → a < 2 ^ 64 → bit z (flip a) ≡ 1 - bit z a
bit-flip z a hz h = flip-bit 64 z a hz h

-- the rotated lane is its low part moved up, with its high part below
rot_parts : (m n a : ℕ) → a < 2 ^ (n + m) → bit_or ((a * 2 ^ n) % 2 ^ (m + n)) (a / 2 ^ m) ≡ (a % 2 ^ m) * 2 ^ n + a / 2 ^ m
rot_parts m n a h =
    let e : (a * 2 ^ n) % 2 ^ (m + n) ≡ (a % 2 ^ m) * 2 ^ n =
    mod-pow-add (a * 2 ^ n) m n ∙ ap₂ (λ p q. (p % 2 ^ m) * 2 ^ n + q) (shl-shr a n) (mul-mod_left a (2 ^ n)) ∙ add-zero ((a % 2 ^ m) * 2 ^ n) in
    ap (λ p. bit_or p (a / 2 ^ m)) e ∙ or_shifted (a % 2 ^ m) n (a / 2 ^ m) (shr_lt n m h)

-- a bit below the n-th is one of the low n
pub bit-low : (n z x : ℕ) → z < n → bit z (x % 2 ^ n) ≡ bit z x
bit-low n z x h =
    let i = n - z - 1 in
    let e : n ≡ i + 1 + z = omega arith in
    ap (λ k. x % 2 ^ k / 2 ^ z % 2) e ∙ ap (λ k. k % 2) (field x (i + 1) z) ∙ mod-mod-pow (x / 2 ^ z) i 1

module _ (m n z a : ℕ) (h : a < 2 ^ (n + m)) where
  rot-below : z < n → bit z ((a % 2 ^ m) * 2 ^ n + a / 2 ^ m) ≡ bit (m + z) a
  rot-below hz =
      sym (bit-low n z ((a % 2 ^ m) * 2 ^ n + a / 2 ^ m) hz) ∙ ap (bit z) (low (a % 2 ^ m) n (shr_lt n m h)) ∙ ap (λ k. k % 2) (shr-shr a m z)

  rot-above : n ≤ z → z < n + m → bit z ((a % 2 ^ m) * 2 ^ n + a / 2 ^ m) ≡ bit (z - n) a
  rot-above hn hz =
      let x = (a % 2 ^ m) * 2 ^ n + a / 2 ^ m in
      let e : z ≡ n + (z - n) = omega arith in
      ap (λ k. x / 2 ^ k % 2) e
      ∙ ap (λ k. k % 2) (sym (shr-shr x n (z - n)))
      ∙ ap (bit (z - n)) (high (a % 2 ^ m) n (shr_lt n m h))
      ∙ bit-low m (z - n) a (omega arith)

turn : (m n z a : ℕ) → a < 2 ^ (n + m) → z < n + m → 0 < n → bit z ((a % 2 ^ m) * 2 ^ n + a / 2 ^ m) ≡ bit ((z + m) % (n + m)) a
turn m n z a h hz hn =
    ⊎_elim
    (λ (o : n - z ≡ 0). let b : n ≤ z = omega arith in let e : z + m ≡ 1 * (n + m) + (z - n) = omega arith in
    rot-above m n z a h b hz ∙ ap (λ k. bit k a) (sym (ap (λ k. k % (n + m)) e ∙ digits_mod 1 (omega arith))))
    (λ (o : 0 < n - z). let b : z < n = omega arith in let e : m + z ≡ z + m = omega arith in
    rot-below m n z a h b ∙ ap (λ k. bit k a) (e ∙ sym (mod-eq_of_lt (omega arith))))
    (eq-zero-or-pos (n - z))

pub bit-rot : (n z a : ℕ) → n < 64 → z < 64 → a < 2 ^ 64 → bit z (rot n a) ≡ bit ((z + (64 - n)) % 64) a
bit-rot zero z a hn hz h = let e : z ≡ (z + 64) % 64 = omega arith in ap (λ k. bit k a) e
bit-rot (suc n) z a hn hz h =
    let m = 64 - suc n in
    let e : 64 ≡ m + suc n = omega arith in
    let f : suc n + m ≡ 64 = omega arith in
    let b : a < 2 ^ (suc n + m) = rw f h in
    let w : z < suc n + m = omega arith in
    ap (bit z) (ap (λ k. bit_or ((a * 2 ^ suc n) % 2 ^ k) (a / 2 ^ m)) e ∙ rot_parts m (suc n) a b)
    ∙ turn m (suc n) z a b w (omega arith)
    ∙ ap (λ k. bit ((z + m) % k) a) f
