-- Groups of eight numbers of w bits, which are w bytes, both ways.
--   based         a shifted 1
--   low_bits      what lies n bits up does not touch the bits below
--   bits_at       the w bits that start t bits up, taken from the eight bytes that they lie in
--   past          what is behind i digits of wi bits is behind j digits of wo bits, where these are as many bits
--   further       m digits more, of at least as many that are written behind the first j
--   unpacked-on   a group more is unpacked
--   written_on    digits written behind digits written
--   written_none, stored   no digit is written; a number more, by its bits
--   copied, bytes-are   a part that was copied over; the bytes of a number as std has them
--   sixteen       sixteen bytes of one number, eight at a time
--   shifted_fits, shifted-low, shifted-high   a number under another that is shifted up, in two words
--   few, quad-below   a few numbers fit a word; four are below 2^(4 w)
--   one_more, two-quads   a number more; four and four
--   packed-on     a group more is packed
--   words-on      a number of 32 bits more is packed
--   group_fits    a group that is still to come has its bytes and its numbers
--   fewer         of the first n digits, the first m
--   resume        `Flow` with nothing held, where the first j digits are there
use Rattle.lists.proofs.Kit.{refl, sym, ap, ◌∙◌, List, append_assoc, append-nil, ℕ, zero, suc, add_assoc}
use Rattle.std.proofs.Common.{◌≡◌, ◌++◌, ◌+◌, ◌*◌, ◌-◌, ◌/◌, ◌%◌, ◌^◌, ◌≤◌, ◌<◌}
use Rattle.lists.proofs.Kit.{add-mul-mod_self_left, lt_of_lt_of_le, mod-lt, mul_assoc, mul_comm, mul-le-mul, mul-le-mul_left, le_of_mul-le-mul_left, mul-mod_left, mul-zero, add-zero, one-mul}
use Rattle.lists.proofs.Kit.{zero-add, arith, length, get_or, take, drop, set, length-append, take-append-drop, drop_at, drop-drop, length-take-le, take_at}
use Rattle.lists.proofs.Kit.{take-take, field, mod-pow-add, pow-add, pow_mono, pow_pos, shl_exact, shl-shr, shr-shr, digits_lt}
use lib.Pow.{split}
use native.Mathlib.Nat.{pow-zero, pow-suc, div-one, div-div-eq-div-mul}
use borrow.Rule.Slice.PartMut.{put_mid}
use Rattle.std.specs.Int.{bytes_low_first}
use Rattle.numbers.proofs.Natural.{power-power}
use Rattle.lists.specs.Ranges.{Below}
use Rattle.lists.proofs.Parts.{below-drop}
use Rattle.packing.specs.Packing.{value, digits}
use Rattle.packing.proofs.Laws.{value-split, value-parts, value-next, value-one, value-take-below, value-drop, digits_append, digits-length, digits_low}
use Rattle.packing.proofs.Flow.{Flow, one, written, written-length}
use lib.Pow as Pow

pub based : (w : ℕ) → w ≤ 32 → 1 * 2 ^ w % 2 ^ 64 ≡ 2 ^ w
based w h = shl_exact 1 w 64 (omega arith) (omega arith) ∙ one-mul (2 ^ w)

low_bits : (x r n w s d : ℕ) → n ≡ w + s + d → (x + 2 ^ n * r) / 2 ^ s % 2 ^ w ≡ x / 2 ^ s % 2 ^ w
low_bits x r n w s d e =
    let low : (x + 2 ^ n * r) % 2 ^ (w + s) ≡ x % 2 ^ (w + s) = rw (e, pow-add 2 (w + s) d, mul_assoc, add-mul-mod_self_left) in
    sym (field (x + 2 ^ n * r) w s) ∙ rw low (field x w s)

pub past : (wi wo : ℕ) {xs : List ℕ} → Below (2 ^ wi) xs → (i j : ℕ) → wo * j ≡ wi * i → value (2 ^ wi) xs / (2 ^ wo) ^ j ≡ value (2 ^ wi) (drop i xs)
past wi wo {xs} h i j e = rw (power-power 2 wo j, e, ← power-power 2 wi i) (value-drop h i)

pub bits_at : {bs : List ℕ} → Below 256 bs → (i t w : ℕ) → w ≤ 32
    → value 256 (take 8 (drop (i + t / 8) bs)) / 2 ^ (t % 8) % 2 ^ w ≡ value 256 (drop i bs) / 2 ^ t % 2 ^ w
bits_at {bs} h i t w l =
    let e : t ≡ 8 * (t / 8) + t % 8 = omega arith in
    let v = value 256 (drop i bs) in
    let u = drop (i + t / 8) bs in
    let bytes : v / 2 ^ (8 * (t / 8)) ≡ value 256 u = rw (← power-power 2 8 (t / 8), ← drop-drop) (value-drop (below-drop h i) (t / 8)) in
    let there : v / 2 ^ t ≡ value 256 u / 2 ^ (t % 8) =
    ap (λ (n : ℕ). v / 2 ^ n) e ∙ sym (shr-shr v (8 * (t / 8)) (t % 8)) ∙ ap (λ (n : ℕ). n / 2 ^ (t % 8)) bytes in
    let room : 64 ≡ w + t % 8 + (64 - (w + t % 8)) = omega arith in
    let low = low_bits (value 256 (take 8 u)) (value 256 (drop 8 u)) 64 w (t % 8) (64 - (w + t % 8)) room in
    sym (ap (λ (n : ℕ). n % 2 ^ w) (there ∙ ap (λ (n : ℕ). n / 2 ^ (t % 8)) (value-split 256 8 u)) ∙ low)

pub further : (b n j v : ℕ) (out : List ℕ) → 0 < b → take j out ≡ digits b j n → (k m t : ℕ) → j + k ≤ length out → m ≤ k → n / b ^ j ≡ v + b ^ m * t
    → take (j + m) (written b k v j out) ≡ digits b (j + m) n
further b n j v out p h k m t l s e =
    let up : k ≡ m + (k - m) = omega arith in
    let rest = digits b (k - m) (v / b ^ m) in
    let size : length (take j out ++ digits b m v) ≡ j + m = rw (length-append, length-take-le j out (omega arith), digits-length) in
    let parts : written b k v j out ≡ take j out ++ digits b m v ++ (rest ++ drop (j + k) out) =
    ap (λ (l : List ℕ). take j out ++ l ++ drop (j + k) out) (ap (λ (i : ℕ). digits b i v) up ∙ digits_append b m (k - m) v) ∙ simp append_assoc in
    ap (take (j + m)) parts ∙ take_at (take j out ++ digits b m v) (rest ++ drop (j + k) out) (j + m) size
    ∙ sym (digits_append b j m n ∙ rw (e, digits_low b m v t p, h))

pub unpacked-on : (w g : ℕ) {bs : List ℕ} (out : List ℕ) → Below 256 bs → take (8 * g) out ≡ digits (2 ^ w) (8 * g) (value 256 bs) → 8 * g + 8 ≤ length out
    → take (8 * (g + 1)) (written (2 ^ w) 8 (value 256 (drop (w * g) bs)) (8 * g) out) ≡ digits (2 ^ w) (8 * (g + 1)) (value 256 bs)
unpacked-on w g {bs} out h s l =
    let e : 8 * (g + 1) ≡ 8 * g + 8 = omega arith in
    let v = value 256 (drop (w * g) bs) in
    let f : value 256 bs / (2 ^ w) ^ (8 * g) ≡ v + (2 ^ w) ^ 8 * 0 = past 8 w h (w * g) (8 * g) (omega arith) ∙ rw (mul-zero, add-zero) in
    rw e (further (2 ^ w) (value 256 bs) (8 * g) v out (pow_pos w) s 8 8 0 l (omega arith) f)

pub written_on : (b k m v j : ℕ) (out : List ℕ) → j + (k + m) ≤ length out
    → written b m (v / b ^ k) (j + k) (written b k v j out) ≡ written b (k + m) v j out
written_on b k m v j out l =
    let p = take j out ++ digits b k v in
    let e = drop (j + k) out in
    let size : length p ≡ j + k = rw (length-append, length-take-le j out (omega arith), digits-length) in
    let behind : drop (j + k + m) (p ++ e) ≡ drop (j + (k + m)) out = rw (← drop-drop m (j + k) (p ++ e), drop_at p e (j + k) size, drop-drop, add_assoc) in
    rw (take_at p e (j + k) size, behind, digits_append) (simp append_assoc)

pub written_none : (b v j : ℕ) (out : List ℕ) → out ≡ written b 0 v j out
unfolding digits
written_none b v j out = sym (simp (append-nil, add-zero, take-append-drop))

pub stored : (w k v j x : ℕ) (out : List ℕ) {o : List ℕ} → j + (k + 1) ≤ length out → x ≡ v / 2 ^ (k * w) % 2 ^ w → o ≡ written (2 ^ w) k v j out
    → set o (j + k) x ≡ written (2 ^ w) (k + 1) v j out
stored w k v j x out {o} l e f =
    let b = 2 ^ w in
    let place : x ≡ v / b ^ k % b = rw (power-power 2 w k, mul_comm w k) e in
    let room : j + k < length (written b k v j out) = rw (written-length b k v j out (omega arith)) (omega arith) in
    rw (f, place) (one b (v / b ^ k) (j + k) (written b k v j out) room ∙ written_on b k 1 v j out l)

-- what stands where k bytes were copied
pub copied : (k v j : ℕ) (out : List ℕ) {p : List ℕ} → p ≡ digits 256 k v → put_mid j (j + k - j) out p ≡ written 256 k v j out
copied k v j out e =
    let n : j + k - j ≡ k = omega arith in
    rw (e, n, append_assoc, drop-drop)

-- the bytes of a number as std has them, from byte i on
bytes-from : (i k v : ℕ) → bytes_low_first i k v ≡ digits 256 k (v / 256 ^ i)
unfolding digits
bytes-from i zero v = refl
bytes-from zero (suc k) v = rw (bytes-from 1 k v, pow-zero, div-one)
bytes-from (suc i) (suc k) v = rw (bytes-from (suc (suc i)) k v, pow-suc 256 (suc i), ← div-div-eq-div-mul)

pub bytes-are : (k v : ℕ) → bytes_low_first 0 k v ≡ digits 256 k v
bytes-are k v = rw (bytes-from 0 k v, pow-zero, div-one)

-- two numbers of 64 bits
pub sixteen : (z v u j : ℕ) (out : List ℕ) {o1 o2 : List ℕ} → j + 16 ≤ length out → digits 256 8 v ≡ digits 256 8 z → z / 256 ^ 8 ≡ u
    → o1 ≡ written 256 8 v j out → o2 ≡ written 256 8 u (j + 8) o1 → o2 ≡ written 256 16 z j out
sixteen z v u j out l d e e1 e2 = e2 ∙ rw (e1, d, ← e) (written_on 256 8 8 z j out l)

-- a number shifted up k bits over another of k bits, in two words
module _ (k n low high : ℕ) (e : n + k ≡ 64) (h : low < 2 ^ k) where
  wraps : high * 2 ^ k % 2 ^ (n + k) ≡ high % 2 ^ n * 2 ^ k
  wraps = mod-pow-add (high * 2 ^ k) n k ∙ rw (shl-shr, mul-mod_left) (omega arith)

  pub shifted_fits : low + high * 2 ^ k % 2 ^ 64 < 2 ^ 64
  shifted_fits =
      let fits : low + high * 2 ^ k % 2 ^ (n + k) < 2 ^ (n + k) = rw (wraps, pow-add) (omega (arith, digits_lt (mod-lt high (pow_pos n)) h)) in
      rw e at fits

  pub shifted-low : digits 256 8 (low + high * 2 ^ k % 2 ^ 64) ≡ digits 256 8 (low + 2 ^ k * high)
  shifted-low =
      let parts : low + 2 ^ k * high ≡ low + high * 2 ^ k % 2 ^ (n + k) + 2 ^ (n + k) * (high / 2 ^ n) =
      rw wraps (ap (λ (x : ℕ). low + 2 ^ k * x) (sym (split high n)) ∙ rw pow-add (omega arith)) in
      sym (ap (digits 256 8) (rw e at parts) ∙ digits_low 256 8 (low + high * 2 ^ k % 2 ^ 64) (high / 2 ^ n) (omega arith))

  pub shifted-high : (low + 2 ^ k * high) / 2 ^ 64 ≡ high / 2 ^ n
  shifted-high =
      let flip : low + 2 ^ k * high ≡ high * 2 ^ k + low = omega arith in
      let up : 64 ≡ k + n = omega arith in
      ap (λ (x : ℕ). x / 2 ^ 64) flip ∙ ap (λ (x : ℕ). (high * 2 ^ k + low) / 2 ^ x) up ∙ sym (shr-shr (high * 2 ^ k + low) k n) ∙ ap (λ (x : ℕ). x / 2 ^ n) (Pow.high high k h)

-- numbers of at most 15 bits, a few at a time
module _ {w : ℕ} {xs : List ℕ} (m : w < 16) (h : Below (2 ^ w) xs) where
  pub few : (k j : ℕ) → k ≤ 4 → value (2 ^ w) (take k (drop j xs)) < 2 ^ 64
  few k j l =
      let small : w * k ≤ 64 = omega (arith, mul-le-mul {n₁ = w} {m₁ = k} {n₂ = 15} {m₂ = 4} (omega arith) l) in
      lt_of_lt_of_le (rw power-power at (value-take-below (below-drop h j) k)) (pow_mono small)

pub quad-below : (w : ℕ) {xs : List ℕ} → Below (2 ^ w) xs → (j : ℕ) → value (2 ^ w) (take 4 (drop j xs)) < 2 ^ (4 * w)
quad-below w h j = rw (mul_comm 4 w, ← power-power 2 w 4) (value-take-below (below-drop h j) 4)

pub one_more : (b k : ℕ) (xs : List ℕ) (j i v : ℕ) → i ≡ j + 1 → v ≡ value b (take k (drop i xs)) → v * b + get_or xs j 0 ≡ value b (take (suc k) (drop j xs))
one_more b k xs j i v e f = rw (f, e) (omega (arith, value-next b k xs j))

pub two-quads : (w j : ℕ) (xs : List ℕ) (low high : ℕ) → low ≡ value (2 ^ w) (take 4 (drop j xs)) → high ≡ value (2 ^ w) (take 4 (drop (j + 4) xs))
    → low + 2 ^ (4 * w) * high ≡ value (2 ^ w) (take 8 (drop j xs))
two-quads w j xs low high e f =
    let b : 2 ^ (4 * w) ≡ (2 ^ w) ^ 4 = rw (mul_comm 4 w) (sym (power-power 2 w 4)) in
    rw (b, e, f, value-parts (2 ^ w) 4 4 (drop j xs), drop-drop)

pub packed-on : (w g : ℕ) {xs : List ℕ} (out : List ℕ) → w < 16 → Below (2 ^ w) xs → take (w * g) out ≡ digits 256 (w * g) (value (2 ^ w) xs)
    → w * g + 16 ≤ length out → (z : ℕ) → z ≡ value (2 ^ w) (take 8 (drop (8 * g) xs))
    → take (w * (g + 1)) (written 256 16 z (w * g) out) ≡ digits 256 (w * (g + 1)) (value (2 ^ w) xs)
packed-on w g {xs} out m h s l z e =
    let n : w * (g + 1) ≡ w * g + w = omega arith in
    let r = drop 8 (drop (8 * g) xs) in
    let b : (2 ^ w) ^ 8 ≡ 256 ^ w = power-power 2 w 8 ∙ rw (mul_comm w 8) (sym (power-power 2 8 w)) in
    let f : value (2 ^ w) xs / 256 ^ (w * g) ≡ z + 256 ^ w * value (2 ^ w) r =
    past w 8 h (8 * g) (w * g) (omega arith) ∙ value-split (2 ^ w) 8 (drop (8 * g) xs) ∙ rw (e, b) in
    rw n (further 256 (value (2 ^ w) xs) (w * g) z out (omega arith) s 16 w (value (2 ^ w) r) l (omega arith) f)

pub words-on : (j : ℕ) {xs : List ℕ} (out : List ℕ) → Below (2 ^ 32) xs → take (4 * j) out ≡ digits 256 (4 * j) (value (2 ^ 32) xs) → 4 * j + 4 ≤ length out
    → take (4 * (j + 1)) (written 256 4 (get_or xs j 0) (4 * j) out) ≡ digits 256 (4 * (j + 1)) (value (2 ^ 32) xs)
words-on j {xs} out h s l =
    let n : 4 * (j + 1) ≡ 4 * j + 4 = omega arith in
    let x = get_or xs j 0 in
    let r = value (2 ^ 32) (drop 1 (drop j xs)) in
    let f : value (2 ^ 32) xs / 256 ^ (4 * j) ≡ x + 256 ^ 4 * r =
    past 32 8 h j (4 * j) (omega arith) ∙ value-split (2 ^ 32) 1 (drop j xs) ∙ rw (value-one (2 ^ 32) xs j) in
    rw n (further 256 (value (2 ^ 32) xs) (4 * j) x out (omega arith) s 4 4 r l (omega arith) f)

-- of n bytes, r of which stand behind the groups of w, and of the m numbers that they are
pub group_fits : (r : ℕ) {w n m g k : ℕ} → 0 < w → w * m ≡ 8 * n → k ≡ n - r → g < k / w → (w * g + w + r ≤ n) × (8 * g + 8 ≤ m)
group_fits r {w} {n} {m} {g} {k} p e s l =
    let u : g + 1 ≤ k / w = omega arith in
    let a : w * (g + 1) ≤ w * (k / w) = mul-le-mul_left w u in
    let b : w * g + w + r ≤ n = omega (arith, a) in
    (b, le_of_mul-le-mul_left {k = w} (omega (arith, e, b)) p)

pub fewer : (b v m n : ℕ) (out : List ℕ) → take n out ≡ digits b n v → m ≤ n → take m out ≡ digits b m v
fewer b v m n out h l =
    let up : n ≡ m + (n - m) = omega arith in
    let parts : digits b n v ≡ digits b m v ++ digits b (n - m) (v / b ^ m) = ap (λ (k : ℕ). digits b k v) up ∙ digits_append b m (n - m) v in
    sym (take-take m n out l) ∙ ap (take m) (h ∙ parts) ∙ take_at (digits b m v) (digits b (n - m) (v / b ^ m)) m (digits-length b m v)

pub resume : (wi wo : ℕ) {xs out : List ℕ} {n : ℕ} → Below (2 ^ wi) xs → (i j : ℕ) → length out ≡ n → wo * j ≡ wi * i → j ≤ n
    → take j out ≡ digits (2 ^ wo) j (value (2 ^ wi) xs) → Flow wi wo xs n out 0 0 i j
resume wi wo {xs} {out} {n} h i j e f l s = record {
  len = e;
  bits = omega arith;
  small = pow_pos 0;
  same = simp (zero-add, one-mul) all;
}
  where
    up : n ≡ j + (n - j)
    up = omega arith

    all : take j out ++ digits (2 ^ wo) (length out - j) (value (2 ^ wi) (drop i xs)) ≡ digits (2 ^ wo) n (value (2 ^ wi) xs)
    all = rw (e, s, ← past wi wo h i j f) (sym (ap (λ (k : ℕ). digits (2 ^ wo) k (value (2 ^ wi) xs)) up ∙ digits_append (2 ^ wo) j (n - j) (value (2 ^ wi) xs)))
