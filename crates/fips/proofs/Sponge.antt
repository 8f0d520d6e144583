-- The sponge on bytes is the standard's on bits.
--   shake-is, sha3-is    SHAKE-128 and SHA3-256
use Rattle.lists.proofs.Kit.{refl, sym, ap, ap₂, ◌∙◌, List, [], ℕ, zero, suc, mod-lt, mod-eq_of_lt}
use Rattle.std.proofs.Common.{◌≡◌, ◌∷◌, ◌++◌, ◌+◌, ◌-◌, ◌*◌, ◌/◌, ◌%◌, ◌^◌, ◌≤◌, ◌<◌}
use Rattle.lists.proofs.Kit.{zero-div, div-one, div-add-mod', arith, digits_div, digits_mod, bit_xor, shr-shr, length, get_or, take, drop, replicate, ext_get_or}
use Rattle.lists.proofs.Kit.{take-nil, drop-nil}
use Rattle.lists.specs.{Entries.tab, Ranges.Below}
use Rattle.lists.proofs.Entries.{tab-length, tab-at, tab-ext, below-tab, below-zeros}
use Rattle.lists.proofs.Parts.{part_at, below-take, below-drop, below-tail}
use Rattle.keccak.specs.Keccak.{keccak_f}
use Rattle.packing.specs.Packing.{value, digits}
use Rattle.packing.proofs.Laws.{value-take-below}
use Rattle.sponge.specs.Sponge.{lane_at, byte_at, over, ending, padded, after, absorbed, turned, squeezed, sponge, shake128, sha3}
use Rattle.fips.specs.Strings.{string, pad, array, permuted, xored, absorbing, turning, squeezing, sponge_of, ShakeIs, Sha3Is}
use Rattle.fips.specs.Steps.{bit, bit_at, Lanes, Same}
use Rattle.fips.proofs.Padding.{string-length, padded-is}
use Rattle.fips.proofs.{Bit.bit-xor, Bit.bit-suc, Bit.bit-low, Kept.xor-keeps, Kept.keccak-keeps, Rounds.keccak-on, Rounds.keccak-is}

bit-zero : (z : ℕ) → bit z 0 ≡ 0
bit-zero z = ap (λ (k : ℕ). k % 2) (zero-div (2 ^ z))

-- ---- a bit of a string

digit_at : (n v t : ℕ) (l : List ℕ) → t < n → get_or (digits 2 n v ++ l) t 0 ≡ bit t v
unfolding digits
digit_at zero v t l h = absurd (omega arith)
digit_at (suc n) v zero l h = ap (λ (k : ℕ). k % 2) (sym (div-one v))
digit_at (suc n) v (suc t) l h = digit_at n (v / 2) t l (omega arith) ∙ sym (bit-suc t v)

string-at : (b : List ℕ) (j t : ℕ) → t < 8 → get_or (string b) (8 * j + t) 0 ≡ bit t (get_or b j 0)
unfolding string digits
string-at [] j t h = sym (bit-zero t)
string-at (x ∷ b) zero t h = let e : 8 * 0 + t ≡ t = omega arith in ap (λ (k : ℕ). get_or (digits 2 8 x ++ string b) k 0) e ∙ digit_at 8 x t (string b) h
string-at (x ∷ b) (suc j) t h =
    let e : 8 * suc j + t ≡ suc (suc (suc (suc (suc (suc (suc (suc (8 * j + t)))))))) = omega arith in
    ap (λ (k : ℕ). get_or (digits 2 8 x ++ string b) k 0) e ∙ string-at b j t h

-- at a place that is not taken apart
string-bit : (b : List ℕ) (i : ℕ) → get_or (string b) i 0 ≡ bit (i % 8) (get_or b (i / 8) 0)
string-bit b i = let e : i ≡ 8 * (i / 8) + i % 8 = omega arith in ap (λ (k : ℕ). get_or (string b) k 0) e ∙ string-at b (i / 8) (i % 8) (mod-lt i (omega arith))

string-take : (n : ℕ) (l : List ℕ) → string (take n l) ≡ take (8 * n) (string l)
unfolding string digits
string-take zero l = refl
string-take (suc n) [] = sym (take-nil {A = ℕ} (8 * suc n))
string-take (suc n) (x ∷ l) =
    let e : 8 * suc n ≡ suc (suc (suc (suc (suc (suc (suc (suc (8 * n)))))))) = omega arith in
    ap (λ (s : List ℕ). digits 2 8 x ++ s) (string-take n l) ∙ ap (λ (k : ℕ). take k (digits 2 8 x ++ string l)) (sym e)

string-drop : (n : ℕ) (l : List ℕ) → string (drop n l) ≡ drop (8 * n) (string l)
unfolding string digits
string-drop zero l = refl
string-drop (suc n) [] = sym (drop-nil {A = ℕ} (8 * suc n))
string-drop (suc n) (x ∷ l) =
    let e : 8 * suc n ≡ suc (suc (suc (suc (suc (suc (suc (suc (8 * n)))))))) = omega arith in
    string-drop n l ∙ ap (λ (k : ℕ). drop k (digits 2 8 x ++ string l)) (sym e)

-- ---- a bit of a lane that bytes make

value-bit : (l : List ℕ) → Below 256 l → (j t : ℕ) → t < 8 → bit (8 * j + t) (value 256 l) ≡ bit t (get_or l j 0)
unfolding value
value-bit [] h j t o = bit-zero (8 * j + t) ∙ sym (bit-zero t)
value-bit (x ∷ l) h zero t o =
    let e : 8 * 0 + t ≡ t = omega arith in
    let v = value 256 l in
    ap (λ (k : ℕ). bit k (v * 256 + x)) e ∙ sym (bit-low 8 t (v * 256 + x) o) ∙ ap (bit t) (digits_mod v (h.below 0))
value-bit (x ∷ l) h (suc j) t o =
    let e : 8 * suc j + t ≡ 8 + (8 * j + t) = omega arith in
    let v = value 256 l in
    ap (λ (k : ℕ). bit k (v * 256 + x)) e
    ∙ ap (λ (k : ℕ). k % 2) (sym (shr-shr (v * 256 + x) 8 (8 * j + t)))
    ∙ ap (bit (8 * j + t)) (digits_div v (h.below 0))
    ∙ value-bit l (below-tail h) j t o

lane-bit : (b : List ℕ) → Below 256 b → (i : ℕ) → bit (i % 64) (lane_at b (i / 64)) ≡ get_or (string b) i 0
lane-bit b h i =
    let k = i / 64 in
    let j = i % 64 / 8 in
    let t = i % 64 % 8 in
    let e : i % 64 ≡ 8 * j + t = omega arith in
    let f : 8 * (8 * k + j) + t ≡ i = omega arith in
    let o : t < 8 = mod-lt (i % 64) (omega arith) in
    ap (λ (z : ℕ). bit z (lane_at b k)) e
    ∙ value-bit (take 8 (drop (8 * k) b)) (below-take (below-drop h (8 * k)) 8) j t o
    ∙ ap (bit t) (part_at (8 * k) 8 b 0 j (omega arith))
    ∙ sym (string-at b (8 * k + j) t o)
    ∙ ap (λ (n : ℕ). get_or (string b) n 0) f

-- ---- the bits of a state, lane after lane

unfoldable bits : List ℕ → List ℕ
bits s = tab 1600 (λ i. bit (i % 64) (get_or s (i / 64) 0))

bits_at : (s : List ℕ) (i : ℕ) → i < 1600 → get_or (bits s) i 0 ≡ bit (i % 64) (get_or s (i / 64) 0)
unfolding bits
bits_at s i h = tab-at 1600 (λ i. bit (i % 64) (get_or s (i / 64) 0)) i 0 h

same_bits : (s : List ℕ) → Same (array (bits s)) (bit_at s)
same_bits s x y z hx hy hz =
    let k = 5 * y + x in
    let p : (64 * k + z) % 64 ≡ z = omega arith in
    let q : (64 * k + z) / 64 ≡ x + 5 * y = omega arith in
    bits_at s (64 * k + z) (omega arith)
    ∙ ap₂ (λ (u v : ℕ). bit u (get_or s v 0)) p q
    ∙ ap₂ (λ (u v : ℕ). bit z (get_or s (u + 5 * v) 0)) (sym (mod-eq_of_lt hx)) (sym (mod-eq_of_lt hy))

permute-is : (s : List ℕ) → Lanes s → permuted (bits s) ≡ bits (keccak_f s)
unfolding permuted bits
permute-is s h =
    tab-ext 1600 _ _
    (λ i l.
    let k = i / 64 in
    let m : k < 25 = omega arith in
    let e : k % 5 % 5 + 5 * (k / 5 % 5) ≡ k = omega arith in
    let p : k / 5 < 5 = omega arith in
    let x : k % 5 < 5 = omega arith in
    let z : i % 64 < 64 = mod-lt i (omega arith) in
    keccak-on (same_bits s) (k % 5) (k / 5) (i % 64) x p z
    ∙ sym (keccak-is s h (k % 5) (k / 5) (i % 64) x p z)
    ∙ ap (λ (n : ℕ). bit (i % 64) (get_or (keccak_f s) n 0)) e)

over-is : (s b : List ℕ) → Below 256 b → bits (over s b) ≡ xored (bits s) (string b)
unfolding over xored bits
over-is s b h =
    tab-ext 1600 _ _
    (λ i l.
    let k = i / 64 in
    let z = i % 64 in
    ap (bit z) (tab-at 25 (λ i. bit_xor (get_or s i 0) (lane_at b i)) k 0 (omega arith))
    ∙ bit-xor z (get_or s k 0) (lane_at b k)
    ∙ ap₂ (λ (u v : ℕ). (u + v) % 2) (sym (bits_at s i l)) (lane-bit b h i))

-- ---- absorbing

no_bits : bits (replicate 25 0) ≡ replicate 1600 0
unfolding bits tab
no_bits = refl

over-keeps : (s b : List ℕ) → Lanes s → Below 256 b → Lanes (over s b)
unfolding over
over-keeps s b h g = below-tab (2 ^ 64) 25 _ (omega arith) (λ k l. xor-keeps (h.below k) (value-take-below (below-drop g (8 * k)) 8))

module _ (rate : ℕ) (p : List ℕ) (h : Below 256 p) where
  block-below : (j : ℕ) → Below 256 (take rate (drop (j * rate) p))
  block-below j = below-take (below-drop h (j * rate)) rate

  after-lanes : (j : ℕ) → Lanes (after rate p j)
  unfolding after
  after-lanes zero = below-zeros 25 (omega arith)
  after-lanes (suc j) = keccak-keeps _ (over-keeps _ _ (after-lanes j) (block-below j))

  absorb-is : (j : ℕ) → bits (after rate p j) ≡ absorbing (8 * rate) (string p) j
  unfolding after absorbing
  absorb-is zero = no_bits
  absorb-is (suc j) =
      let s = after rate p j in
      let b = take rate (drop (j * rate) p) in
      let e : 8 * (j * rate) ≡ j * (8 * rate) = omega arith in
      let f : string b ≡ take (8 * rate) (drop (j * (8 * rate)) (string p)) =
      string-take rate (drop (j * rate) p) ∙ ap (take (8 * rate)) (string-drop (j * rate) p ∙ ap (λ (n : ℕ). drop n (string p)) e) in
      sym (permute-is (over s b) (over-keeps s b (after-lanes j) (block-below j)))
      ∙ ap permuted (over-is s b (block-below j) ∙ ap₂ xored (absorb-is j) f)

-- ---- squeezing

module _ (s : List ℕ) (h : Lanes s) where
  turned-lanes : (j : ℕ) → Lanes (turned s j)
  unfolding turned
  turned-lanes zero = h
  turned-lanes (suc j) = keccak-keeps _ (turned-lanes j)

  turn_is : (j : ℕ) → bits (turned s j) ≡ turning (bits s) j
  unfolding turned turning
  turn_is zero = refl
  turn_is (suc j) = sym (permute-is (turned s j) (turned-lanes j)) ∙ ap permuted (turn_is j)

byte-bit : (s : List ℕ) (j t : ℕ) → j < 200 → t < 8 → bit t (byte_at s j) ≡ get_or (bits s) (8 * j + t) 0
byte-bit s j t h o =
    let a = get_or s (j / 8) 0 in
    let p : 8 * (j % 8) + t ≡ (8 * j + t) % 64 = omega arith in
    let q : j / 8 ≡ (8 * j + t) / 64 = omega arith in
    bit-low 8 t (a / 2 ^ (8 * (j % 8))) o
    ∙ ap (λ (k : ℕ). k % 2) (shr-shr a (8 * (j % 8)) t)
    ∙ ap₂ (λ (u v : ℕ). bit u (get_or s v 0)) p q
    ∙ sym (bits_at s (8 * j + t) (omega arith))

module _ (rate : ℕ) (hr : 0 < rate) (ho : rate ≤ 200) where
  -- bit t of byte k of an output stands in the same state as in the standard's
  place : (k t : ℕ) → t < 8 → ((8 * k + t) / (8 * rate) ≡ k / rate) × ((8 * k + t) % (8 * rate) ≡ 8 * (k % rate) + t)
  place k t o =
      let q = k / rate in
      let r = k % rate in
      let l : r < rate = mod-lt k hr in
      let d : q * rate + r ≡ k = div-add-mod' k rate in
      let e : 8 * k + t ≡ q * (8 * rate) + (8 * r + t) = omega arith in
      let b : 8 * r + t < 8 * rate = omega arith in
      (ap (λ (n : ℕ). n / (8 * rate)) e ∙ digits_div q b, ap (λ (n : ℕ). n % (8 * rate)) e ∙ digits_mod q b)

  squeeze-is : (s : List ℕ) → Lanes s → (n : ℕ) → string (squeezed rate s n) ≡ squeezing (8 * rate) (bits s) (8 * n)
  unfolding squeezed squeezing
  squeeze-is s h n =
      let f : ℕ → ℕ = λ k. byte_at (turned s (k / rate)) (k % rate) in
      let g : ℕ → ℕ = λ i. get_or (turning (bits s) (i / (8 * rate))) (i % (8 * rate)) 0 in
      let l : length (string (tab n f)) ≡ 8 * n = string-length (tab n f) ∙ ap (λ (k : ℕ). 8 * k) (tab-length n f) in
      ext_get_or 0 (string (tab n f)) (tab (8 * n) g) (l ∙ sym (tab-length (8 * n) g))
      (λ i o.
      let k = i / 8 in
      let t = i % 8 in
      let ht : t < 8 = mod-lt i (omega arith) in
      let hi : i < 8 * n = omega arith in
      let hk : k < n = omega arith in
      let e : 8 * k + t ≡ i = omega arith in
      let w = place k t ht in
      string-bit (tab n f) i
      ∙ ap (bit t) (tab-at n f k 0 hk)
      ∙ byte-bit (turned s (k / rate)) (k % rate) t (omega (arith, mod-lt k hr)) ht
      ∙ ap₂ (λ (u : List ℕ) (v : ℕ). get_or u v 0) (turn_is s h (k / rate) ∙ ap (turning (bits s)) (sym w.0)) (sym w.1)
      ∙ ap g e
      ∙ sym (tab-at (8 * n) g i 0 hi))

-- ---- the whole

none_below : {q : ℕ} → 0 < q → Below q []
none_below h = record { below = λ k. h }

cons-below : {q x : ℕ} {xs : List ℕ} → x < q → Below q xs → Below q (x ∷ xs)
cons-below {q} {x} {xs} o h = record { below = go }
  where
    go : (k : ℕ) → get_or (x ∷ xs) k 0 < q
    go zero = o
    go (suc k) = h.below k

append-below : {q : ℕ} (xs ys : List ℕ) → Below q xs → Below q ys → Below q (xs ++ ys)
append-below [] ys f g = g
append-below (x ∷ xs) ys f g = cons-below (f.below 0) (append-below xs ys (below-tail f) g)

ending-below : (n d : ℕ) → d < 128 → Below 256 (ending n d)
ending-below zero d h = none_below (omega arith)
ending-below (suc zero) d h = cons-below (omega arith) (none_below (omega arith))
ending-below (suc (suc n)) d h =
    cons-below (omega arith)
    (append-below (replicate n 0) (128 ∷ []) (below-zeros n (omega arith)) (cons-below (omega arith) (none_below (omega arith))))

padded-below : (rate d : ℕ) (m : List ℕ) → d < 128 → Below 256 m → Below 256 (padded rate d m)
unfolding padded
padded-below rate d m o h = append-below m (ending (rate - length m % rate) d) h (ending-below (rate - length m % rate) d o)

sponge-is : (rate d : ℕ) (suffix : List ℕ) → 0 < rate → rate ≤ 200 → d < 128 → (m : List ℕ) (n : ℕ) → Below 256 m
    → string (padded rate d m) ≡ (string m ++ suffix) ++ pad (8 * rate) (length (string m ++ suffix))
    → string (sponge rate d m n) ≡ sponge_of (8 * rate) (string m ++ suffix) (8 * n)
unfolding absorbed sponge_of
sponge-is rate d suffix hr ho hd m n h is =
    let p = padded rate d m in
    let b : Below 256 p = padded-below rate d m hd h in
    let e : length (string p) ≡ 8 * length p + 0 = string-length p ∙ omega arith in
    let c : length (string p) / (8 * rate) ≡ length p / rate = ap (λ (k : ℕ). k / (8 * rate)) e ∙ (place rate hr ho (length p) 0 (omega arith)).0 in
    squeeze-is rate hr ho (after rate p (length p / rate)) (after-lanes rate p b (length p / rate)) n
    ∙ ap (λ (s : List ℕ). squeezing (8 * rate) s (8 * n))
    (absorb-is rate p b (length p / rate)
    ∙ ap (absorbing (8 * rate) (string p)) (sym c)
    ∙ ap (λ (q : List ℕ). absorbing (8 * rate) q (length q / (8 * rate))) is)

pub shake-is : ShakeIs
unfolding shake128 digits
shake-is m n h =
    sponge-is 168 31 (1 ∷ 1 ∷ 1 ∷ 1 ∷ []) (omega arith) (omega arith) (omega arith) m n h (padded-is 31 4 _ refl (omega arith) refl refl 168 (omega arith) m)

pub sha3-is : Sha3Is
unfolding sha3 digits
sha3-is m h =
    sponge-is 136 6 (0 ∷ 1 ∷ []) (omega arith) (omega arith) (omega arith) m 32 h (padded-is 6 2 _ refl (omega arith) refl refl 136 (omega arith) m)
