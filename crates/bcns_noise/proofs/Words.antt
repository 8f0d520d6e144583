-- Numbers as words and as bytes.
--   words-order   the order of the words, highest first, is the order of the numbers
--   tuple-order   that of tuples of them, which the code compares
--   big-join      the number of some bytes and those behind them
--   big-wide      24 bytes are three words
--   big-three     three bytes
use Rattle.lists.proofs.Kit.{refl, ◌∙◌, sym, ap, ap₂, Bool, true, false, cond, List, ℕ, zero, suc, arith, dec_lt, dec_le, ℕ_discrete, add-suc}
use Rattle.std.specs.Ordering.{nat_cmp, partial_ordering_then, partial_le}
use Rattle.std.proofs.Common.{◌≡◌, Option, Some, Ordering, Less, Equal, Greater, ◌&&◌, ◌||◌, ◌+◌, ◌*◌, ◌^◌, ◌<◌, ◌≤◌}
use Rattle.lists.proofs.Kit.{pow-suc, mul-le-mul, le_refl, lt-ltb, le-ltb, le-leb, lt-leb, eq-eqb, ne_eqb, leb, ltb, eqb, get_or}
use Rattle.bcns_noise.specs.Noise.{wide, big_endian}

-- ---- words

-- two digits in any base
module _ (B a b x y : ℕ) (hb : b < B) (hy : y < B) where
  less : a < x → a * B + b < x * B + y
  less l = let k : suc a * B ≤ x * B = mul-le-mul l (le_refl B) in omega arith

  more : x < a → x * B + y < a * B + b
  more l = let k : suc x * B ≤ a * B = mul-le-mul l (le_refl B) in omega arith

  equal : a ≡ x → Dec (b ≤ y) → leb b y ≡ leb (a * B + b) (x * B + y)
  equal e (yes p) = le-leb b y p ∙ sym (le-leb (a * B + b) (x * B + y) (rw e (omega arith)))
  equal e (no p) = lt-leb b y (omega arith) ∙ sym (lt-leb (a * B + b) (x * B + y) (rw e (omega arith)))

  go : Dec (a < x) → Dec (a ≡ x) → ltb a x || (eqb a x && leb b y) ≡ leb (a * B + b) (x * B + y)
  go (yes p) d = rw (lt-ltb a x p) (sym (le-leb (a * B + b) (x * B + y) (omega (arith, less p))))
  go (no p) (yes e) = rw (le-ltb a x (omega arith), eq-eqb a x e) (equal e (dec_le b y))
  go (no p) (no e) = rw (le-ltb a x (omega arith), ne_eqb a x e) (sym (lt-leb (a * B + b) (x * B + y) (more (omega arith))))

  pub digits-order : ltb a x || (eqb a x && leb b y) ≡ leb (a * B + b) (x * B + y)
  digits-order = go (dec_lt a x) (ℕ_discrete a x)

-- three digits are one and two
module _ (B a b c x y z : ℕ) (hb : b < B) (hc : c < B) (hy : y < B) (hz : z < B) where
  two-lt : (d e : ℕ) → d < B → e < B → d * B + e < B * B
  two-lt d e hd he = let k : suc d * B ≤ B * B = mul-le-mul hd (le_refl B) in omega arith

  three : (d e f : ℕ) → d * (B * B) + (e * B + f) ≡ (d * B + e) * B + f
  three d e f = omega arith

  three-order : ltb a x || (eqb a x && (ltb b y || (eqb b y && leb c z))) ≡ leb ((a * B + b) * B + c) ((x * B + y) * B + z)
  three-order =
      ap (λ (t : Bool). ltb a x || (eqb a x && t)) (digits-order B b c y z hc hz)
      ∙ digits-order (B * B) a (b * B + c) x (y * B + z) (two-lt b c hb hc) (two-lt y z hy hz)
      ∙ ap₂ leb (three a b c) (three x y z)

pub words-order :
    (a b c x y z : ℕ) → b < 2 ^ 64 → c < 2 ^ 64 → y < 2 ^ 64 → z < 2 ^ 64 →
    ltb a x || (eqb a x && (ltb b y || (eqb b y && leb c z))) ≡ leb (wide a b c) (wide x y z)
unfolding wide
words-order a b c x y z hb hc hy hz = three-order (2 ^ 64) a b c x y z hb hc hy hz

-- as `<=` decides at tuples of three
by_parts : (p q r s t u : Bool) →
    partial_le (λ (_ _ : ℕ). partial_ordering_then (partial_ordering_then (Some (cond p Less (cond q Equal Greater))) (Some (cond r Less (cond s Equal Greater)))) (Some (cond t Less (cond u Equal Greater)))) 0 0
    ≡ p || (q && (r || (s && (t || u))))
by_parts true q r s t u = refl
by_parts false true true s t u = refl
by_parts false true false true true u = refl
by_parts false true false true false true = refl
by_parts false true false true false false = refl
by_parts false true false false t u = refl
by_parts false false r s t u = refl

less-or-same : (c z : ℕ) → Dec (c < z) → Dec (c ≡ z) → ltb c z || eqb c z ≡ leb c z
less-or-same c z (yes p) d = rw (lt-ltb c z p) (sym (le-leb c z (omega arith)))
less-or-same c z (no p) (yes e) = rw (le-ltb c z (omega arith), eq-eqb c z e) (sym (le-leb c z (omega arith)))
less-or-same c z (no p) (no e) = rw (le-ltb c z (omega arith), ne_eqb c z e) (sym (lt-leb c z (omega arith)))

abbrev pub three_cmp : ℕ × ℕ × ℕ → ℕ × ℕ × ℕ → Option Ordering
three_cmp s t = partial_ordering_then (partial_ordering_then (Some (nat_cmp s.0 t.0)) (Some (nat_cmp s.1 t.1))) (Some (nat_cmp s.2 t.2))

pub tuple-order :
    (a b c x y z : ℕ) → b < 2 ^ 64 → c < 2 ^ 64 → y < 2 ^ 64 → z < 2 ^ 64 → partial_le three_cmp (a, b, c) (x, y, z) ≡ leb (wide a b c) (wide x y z)
tuple-order a b c x y z hb hc hy hz =
    by_parts (ltb a x) (eqb a x) (ltb b y) (eqb b y) (ltb c z) (eqb c z)
    ∙ ap (λ (t : Bool). ltb a x || (eqb a x && (ltb b y || (eqb b y && t)))) (less-or-same c z (dec_lt c z) (ℕ_discrete c z))
    ∙ words-order a b c x y z hb hc hy hz

-- ---- bytes

pub big-join : (bs : List ℕ) (at m n : ℕ) → big_endian bs at (m + n) ≡ big_endian bs at m * 256 ^ n + big_endian bs (at + m) n
unfolding big_endian
big-join bs at m zero = let e : m + 0 ≡ m = omega arith in ap (big_endian bs at) e ∙ omega arith
big-join bs at m (suc n) =
    let e : at + (m + n) ≡ at + m + n = omega arith in
    ap (big_endian bs at) (add-suc m n)
    ∙ ap₂ (λ (x y : ℕ). x * 256 + get_or bs y 0) (big-join bs at m n) e
    ∙ omega (arith, ap (λ (p : ℕ). big_endian bs at m * p) (pow-suc 256 n))

pub big-wide : (bs : List ℕ) (at : ℕ) → big_endian bs at 24 ≡ wide (big_endian bs at 8) (big_endian bs (at + 8) 8) (big_endian bs (at + 16) 8)
unfolding wide
big-wide bs at = big-join bs at 16 8 ∙ ap (λ (n : ℕ). n * 2 ^ 64 + big_endian bs (at + 16) 8) (big-join bs at 8 8)

pub big-three : (bs : List ℕ) (at : ℕ) → get_or bs at 0 * 65536 + get_or bs (at + 1) 0 * 256 + get_or bs (at + 2) 0 ≡ big_endian bs at 3
unfolding big_endian
big-three bs at = let e : at ≡ at + 0 = omega arith in ap (λ (k : ℕ). get_or bs k 0 * 65536 + get_or bs (at + 1) 0 * 256 + get_or bs (at + 2) 0) e ∙ omega arith
