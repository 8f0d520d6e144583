-- Laws of packing, once over the width and the base. Both directions go through the number that the digits make.
--   value-split       a number is its k lowest digits, and the others k places up
--   value-parts       the number of k + m digits is that of k, and that of the m others k places up
--   value-next        the number of k + 1 digits from place i on is the first, and the k others one place up; past the end they read 0
--   value-one         the number of one digit is that digit
--   value-four        the number of four bytes, written out
--   value-take-below  the number of at most k digits is below b ^ k
--   value-below       the number of a list of at most k digits is below b ^ k
--   value-drop        a number without its k lowest digits is that of the others
--   digits-length     n digits are n
--   digits-below      each is below the base
--   digits_append     m + n digits are the m lowest, then n of what is left
--   digits_low        what is added n places up leaves the n lowest digits as they are
--   digits_value      the digits of a list's number are the list
--   value-digits      the number of v's n digits is v, where v has no more
--   packed-length     n numbers of w bits take w * n / 8 bytes
--   packed-below      each is a byte
--   unpacked-length   n numbers come out
--   unpacked-below    each of w bits
--   no_bits           numbers of no bits are zeros
--   unpack-pack, pack-unpack   packing and unpacking undo each other
use Rattle.lists.proofs.Kit.{refl, sym, ap, ◌∙◌, List, [], ℕ, zero, suc, mod-lt, div-add-mod', div-lt_iff_lt-mul}
use Rattle.std.proofs.Common.{◌≡◌, ◌∷◌, ◌++◌, ◌+◌, ◌*◌, ◌/◌, ◌^◌, ◌≤◌, ◌<◌}
use Rattle.lists.proofs.Kit.{div-div-eq-div-mul, add-mul-div_left, add-mul-mod_self_left, one-le-pow, pow-suc, pow-succ', mul_assoc, add_assoc, add-zero}
use Rattle.lists.proofs.Kit.{zero-add, suc-add, div-one, arith, length, get_or, take, drop, replicate, pow_pos, get_or-drop, drop-drop, take_all, take-nil}
use Rattle.lists.proofs.Kit.{digits_div, digits_mod, digits_lt}
use native.Mathlib.Nat.{pow-zero, mod-one}
use lib.Arith.{lt-one}
use Rattle.numbers.proofs.Natural.{power-power}
use Rattle.lists.specs.Ranges.{Below}
use Rattle.lists.proofs.Parts.{below-tail}
use Rattle.packing.specs.Packing.{value, digits, packed, unpacked, UnpackPack, PackUnpack}

pub value-split : (b k : ℕ) (xs : List ℕ) → value b xs ≡ value b (take k xs) + b ^ k * value b (drop k xs)
unfolding value
value-split b zero xs = rw pow-zero (omega arith)
value-split b (suc k) [] = omega arith
value-split b (suc k) (x ∷ xs) = rw (value-split b k xs, pow-suc) (omega arith)

pub value-parts : (b k m : ℕ) (xs : List ℕ) → value b (take (k + m) xs) ≡ value b (take k xs) + b ^ k * value b (take m (drop k xs))
unfolding value
value-parts b zero m xs = rw (zero-add m, pow-zero) (omega arith)
value-parts b (suc k) m [] = rw (suc-add, take-nil {A = ℕ} m) (omega arith)
value-parts b (suc k) m (x ∷ xs) = rw (suc-add, value-parts b k m xs, pow-suc) (omega arith)

value-first : (b k : ℕ) (xs : List ℕ) → value b (take (suc k) xs) ≡ get_or xs 0 0 + b * value b (take k (drop 1 xs))
unfolding value
value-first b k [] = rw (take-nil {A = ℕ} k) (omega arith)
value-first b k (x ∷ xs) = omega arith

pub value-next : (b k : ℕ) (xs : List ℕ) (i : ℕ) → value b (take (suc k) (drop i xs)) ≡ get_or xs i 0 + b * value b (take k (drop (i + 1) xs))
value-next b k xs i = value-first b k (drop i xs) ∙ rw (get_or-drop, drop-drop, add-zero)

pub value-one : (b : ℕ) (xs : List ℕ) (i : ℕ) → value b (take 1 (drop i xs)) ≡ get_or xs i 0
unfolding value
value-one b xs i = value-next b 0 xs i ∙ omega arith

pub value-four : (bs : List ℕ) (i : ℕ)
    → value 256 (take 4 (drop i bs)) ≡ get_or bs i 0 + 256 * get_or bs (i + 1) 0 + 65536 * get_or bs (i + 2) 0 + 16777216 * get_or bs (i + 3) 0
unfolding value
value-four bs i =
    rw (value-next 256 3 bs i, value-next 256 2 bs (i + 1), add_assoc i 1 1, value-next 256 1 bs (i + 2), add_assoc i 2 1, value-next 256 0 bs (i + 3))
    (omega arith)

pub value-take-below : {b : ℕ} {xs : List ℕ} → Below b xs → (k : ℕ) → value b (take k xs) < b ^ k
unfolding value
value-take-below h zero = rw pow-zero (omega arith)
value-take-below {b} {xs = []} h (suc k) = one-le-pow (suc k) b (h.below 0)
value-take-below {b} {xs = x ∷ xs} h (suc k) = rw pow-suc (digits_lt (value-take-below (below-tail h) k) (h.below 0))

pub value-below : {b : ℕ} {xs : List ℕ} → Below b xs → (k : ℕ) → length xs ≤ k → value b xs < b ^ k
value-below {xs} h k l = rw take_all at (value-take-below h k)

pub value-drop : {b : ℕ} {xs : List ℕ} → Below b xs → (k : ℕ) → value b xs / b ^ k ≡ value b (drop k xs)
value-drop {b} {xs} h k =
    let e : value b xs ≡ value b (drop k xs) * b ^ k + value b (take k xs) = value-split b k xs ∙ omega arith in
    ap (λ (n : ℕ). n / b ^ k) e ∙ digits_div (value b (drop k xs)) (value-take-below h k)

pub digits-length : (b n v : ℕ) → length (digits b n v) ≡ n
unfolding digits
digits-length b zero v = refl
digits-length b (suc n) v = ap suc (digits-length b n (v / b))

digit-below : (b n v : ℕ) → 0 < b → (k : ℕ) → get_or (digits b n v) k 0 < b
unfolding digits
digit-below b zero v p k = p
digit-below b (suc n) v p zero = mod-lt v p
digit-below b (suc n) v p (suc k) = digit-below b n (v / b) p k

pub digits-below : (b n v : ℕ) → 0 < b → Below b (digits b n v)
digits-below b n v p = record { below = digit-below b n v p }

pub digits_append : (b m n v : ℕ) → digits b (m + n) v ≡ digits b m v ++ digits b n (v / b ^ m)
unfolding digits
digits_append b zero n v = simp (zero-add, pow-zero, div-one)
digits_append b (suc m) n v = rw (suc-add, pow-succ', ← div-div-eq-div-mul, digits_append b m n (v / b))

pub digits_low : (b n v t : ℕ) → 0 < b → digits b n (v + b ^ n * t) ≡ digits b n v
unfolding digits
digits_low b zero v t p = refl
digits_low b (suc n) v t p = rw (pow-succ', mul_assoc, add-mul-mod_self_left, add-mul-div_left, digits_low b n (v / b) t p)

pub digits_value : {b : ℕ} {xs : List ℕ} → Below b xs → digits b (length xs) (value b xs) ≡ xs
unfolding digits value
digits_value {xs = []} h = refl
digits_value {b} {xs = x ∷ xs} h =
    rw (digits_mod (value b xs) (h.below 0), digits_div (value b xs) (h.below 0), digits_value (below-tail h))

pub value-digits : (b n v : ℕ) → 0 < b → v < b ^ n → value b (digits b n v) ≡ v
unfolding digits value
value-digits b zero v p h = sym (lt-one (rw pow-zero at h))
value-digits b (suc n) v p h =
    rw (value-digits b n (v / b) p ((div-lt_iff_lt-mul p).1 (rw pow-suc at h))) (div-add-mod' v b)

pub packed-length : (w : ℕ) (xs : List ℕ) → length (packed w xs) ≡ w * length xs / 8
unfolding packed
packed-length w xs = digits-length 256 (w * length xs / 8) (value (2 ^ w) xs)

pub packed-below : (w : ℕ) (xs : List ℕ) → Below 256 (packed w xs)
unfolding packed
packed-below w xs = digits-below 256 (w * length xs / 8) (value (2 ^ w) xs) (omega arith)

pub unpacked-length : (w n : ℕ) (bs : List ℕ) → length (unpacked w n bs) ≡ n
unfolding unpacked
unpacked-length w n bs = digits-length (2 ^ w) n (value 256 bs)

pub unpacked-below : (w n : ℕ) (bs : List ℕ) → Below (2 ^ w) (unpacked w n bs)
unfolding unpacked
unpacked-below w n bs = digits-below (2 ^ w) n (value 256 bs) (pow_pos w)

-- one digit in base 1 is 0
ones : (n v : ℕ) → digits 1 n v ≡ replicate n 0
unfolding digits
ones zero v = refl
ones (suc n) v = rw (mod-one v, ones n (v / 1))

pub no_bits : (n : ℕ) (bs : List ℕ) → unpacked 0 n bs ≡ replicate n 0
unfolding unpacked
no_bits n bs = ones n (value 256 bs)

-- n numbers of w bits that fill m bytes have as many values
same-room : (w n m : ℕ) → w * n ≡ 8 * m → (2 ^ w) ^ n ≡ 256 ^ m
same-room w n m e = rw (power-power 2 w n, e) (sym (power-power 2 8 m))

-- digits in one base, through those in another that has room for as much, are the same digits
there_back : (b c m : ℕ) (xs : List ℕ) → 0 < c → Below b xs → b ^ length xs ≡ c ^ m
    → digits b (length xs) (value c (digits c m (value b xs))) ≡ xs
there_back b c m xs p h e = rw (value-digits c m (value b xs) p (rw e at (value-below h (length xs) (omega arith)))) (digits_value h)

pub unpack-pack : UnpackPack
unfolding packed unpacked
unpack-pack w m xs e h =
    let b : w * length xs / 8 ≡ m = omega arith in
    rw b (there_back (2 ^ w) 256 m xs (omega arith) h (same-room w (length xs) m e))

pub pack-unpack : PackUnpack
unfolding packed unpacked
pack-unpack w n bs e h =
    let b : w * n / 8 ≡ length bs = omega arith in
    rw (digits-length, b) (there_back 256 (2 ^ w) n bs (pow_pos w) h (sym (same-room w n (length bs) e)))
