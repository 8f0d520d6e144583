-- Numbers as limbs: the table by limbs, a comparison limb by limb, and the count.
--   number f i m           the number of the m limbs of f from i on
--   pass-next              a comparison: one limb more
--   table-limb             a limb of the table from its bytes
--   laid_none, laid_next   the rows of the table by limbs: before, and at each turn
--   tally-next             the count: one entry more
--   eight-below, number-eight   the limbs of a value: each is small, and they are its 24 bytes
--   value-is               a value from its parts, as the code forms them
use Rattle.lists.proofs.Kit.{refl, ◌∙◌, sym, ap, ap₂, subst, Bool, true, false, List, [], ℕ, zero, suc}
use Rattle.std.proofs.Common.{◌≡◌, ◌∷◌, ◌+◌, ◌*◌, ◌-◌, ◌/◌, ◌%◌, ◌^◌, ◌<◌, ◌≤◌}
use Rattle.lists.proofs.Kit.{add-one, arith, dec_lt, mul-le-mul, le_refl, pow-suc, add-suc, lt-ltb, le-ltb, le-leb, lt-leb, leb-true, leb-false, leb, ltb}
use Rattle.lists.proofs.Kit.{length, get_or, replicate, length-replicate, get_or-replicate, bool_byte}
use Rattle.numbers.proofs.Natural.{power-power}
use Rattle.lists.specs.Ranges.{Below, Stored}
use Rattle.lists.proofs.Entries.{tab-at, tab-const, below-tab}
use Rattle.noise.specs.Noise.{at_most, with_sign}
use Rattle.noise.proofs.Noise.{Counted, counted_none, counted-all}
use Rattle.bcns_noise.specs.Limbs.{byte_of, word_bytes, limbs, limbs_of, passes, tally, LimbRows}
use Rattle.bcns_noise.specs.Noise.{entry_of, entries, big_endian, bcns_value_lem}
use Rattle.bcns_noise.proofs.{Words.big-join, Words.big-wide, Table.entries-long, Table.byte_le, Table.count-entry}

-- ---- the number of some limbs

unfoldable pub number : (ℕ → ℕ) → ℕ → ℕ → ℕ
number f i zero = 0
number f i (suc m) = f i * 16777216 ^ m + number f (suc i) m

number_lt : (f : ℕ → ℕ) → ((j : ℕ) → f j < 16777216) → (i m : ℕ) → number f i m < 16777216 ^ m
unfolding number
number_lt f h i zero = omega arith
number_lt f h i (suc m) =
    let k : suc (f i) * 16777216 ^ m ≤ 16777216 * 16777216 ^ m = mul-le-mul (h i) (le_refl (16777216 ^ m)) in
    omega (arith, k, pow-suc 16777216 m, number_lt f h (suc i) m)

-- three bytes a limb
number-big : (bs : List ℕ) (at i m : ℕ) → number (λ (j : ℕ). big_endian bs (at + 3 * j) 3) i m ≡ big_endian bs (at + 3 * i) (3 * m)
unfolding number big_endian
number-big bs at i zero = refl
number-big bs at i (suc m) =
    let e : at + 3 * suc i ≡ at + 3 * i + 3 = omega arith in
    let l : 3 + 3 * m ≡ 3 * suc m = omega arith in
    ap₂ (λ (p r : ℕ). big_endian bs (at + 3 * i) 3 * p + r) (power-power 256 3 m) (number-big bs at (suc i) m ∙ ap (λ (j : ℕ). big_endian bs j (3 * m)) e)
    ∙ sym (big-join bs (at + 3 * i) 3 (3 * m))
    ∙ ap (big_endian bs (at + 3 * i)) l

-- ---- a comparison

module _ (P a c x z : ℕ) (hc : c < P) (hz : z < P) where
  equal-passes : c ≤ z → Dec (a < x + 1) → ltb a (x + 1) ≡ leb (a * P + c) (x * P + z)
  equal-passes l (yes p) =
      let k : a * P ≤ x * P = mul-le-mul (omega arith) (le_refl P) in
      lt-ltb a (x + 1) p ∙ sym (le-leb (a * P + c) (x * P + z) (omega arith))
  equal-passes l (no p) =
      let k : suc x * P ≤ a * P = mul-le-mul (omega arith) (le_refl P) in
      le-ltb a (x + 1) (omega arith) ∙ sym (lt-leb (a * P + c) (x * P + z) (omega arith))

  equal-fails : z < c → Dec (a < x + 0) → ltb a (x + 0) ≡ leb (a * P + c) (x * P + z)
  equal-fails l (yes p) =
      let k : suc a * P ≤ x * P = mul-le-mul (omega arith) (le_refl P) in
      lt-ltb a (x + 0) p ∙ sym (le-leb (a * P + c) (x * P + z) (omega arith))
  equal-fails l (no p) =
      let k : x * P ≤ a * P = mul-le-mul (omega arith) (le_refl P) in
      le-ltb a (x + 0) (omega arith) ∙ sym (lt-leb (a * P + c) (x * P + z) (omega arith))

  order : (b : Bool) → leb c z ≡ b → ltb a (x + bool_byte b) ≡ leb (a * P + c) (x * P + z)
  order true e = equal-passes (leb-true c z e) (dec_lt a (x + 1))
  order false e = equal-fails (leb-false c z e) (dec_lt a (x + 0))

module _ (f g : ℕ → ℕ) (hf : (j : ℕ) → f j < 16777216) (hg : (j : ℕ) → g j < 16777216) where
  passes-order : (i m : ℕ) → passes f g i m ≡ leb (number f i m) (number g i m)
  unfolding passes number
  passes-order i zero = sym (le-leb 0 0 (omega arith))
  passes-order i (suc m) =
      order (16777216 ^ m) (f i) (number f (suc i) m) (g i) (number g (suc i) m) (number_lt f hf (suc i) m) (number_lt g hg (suc i) m)
      (passes f g (suc i) m) (sym (passes-order (suc i) m))

passes_same :
    (f f' g : ℕ → ℕ) (n : ℕ) → ((j : ℕ) → j < n → f j ≡ f' j) → (i m : ℕ) → i + m ≤ n → passes f g i m ≡ passes f' g i m
unfolding passes
passes_same f f' g n e i zero h = refl
passes_same f f' g n e i (suc m) h =
    ap₂ (λ (x : ℕ) (b : Bool). ltb x (g i + bool_byte b)) (e i (omega arith)) (passes_same f f' g n e (suc i) m (omega arith))

-- one limb more, as the code has it
pub pass-next :
    (f g : ℕ → ℕ) (i : ℕ) {r : ℕ} → i < 8 → r ≡ bool_byte (passes f g (suc i) (7 - i)) → bool_byte (ltb (f i) (g i + r)) ≡ bool_byte (passes f g i (8 - i))
unfolding passes
pass-next f g i {r} h e =
    let s : suc (7 - i) ≡ 8 - i = omega arith in
    ap (λ (n : ℕ). bool_byte (ltb (f i) (g i + n))) e ∙ ap (λ (m : ℕ). bool_byte (passes f g i m)) s

-- ---- the table

byte-lt : (table : List ℕ) → Below 256 (word_bytes table)
unfolding word_bytes byte_of
byte-lt table = below-tab 256 (8 * length table) (byte_of table) (omega arith) (λ k l. omega arith)

three-lt : (bs : List ℕ) → Below 256 bs → (at : ℕ) → big_endian bs at 3 < 16777216
unfolding big_endian
three-lt bs b at = omega (arith, b.below (at + 0), b.below (at + 1), b.below (at + 2))

pub byte_at : (table : List ℕ) (n : ℕ) → n < 8 * length table → get_or (word_bytes table) n 0 ≡ byte_of table n
unfolding word_bytes
byte_at table n h = tab-at (8 * length table) (byte_of table) n 0 h

pub table-limb :
    (table : List ℕ) (n : ℕ) {a b c : ℕ} → n + 3 ≤ 8 * length table → a ≡ byte_of table n → b ≡ byte_of table (n + 1) → c ≡ byte_of table (n + 2)
    → a * 65536 + b * 256 + c ≡ big_endian (word_bytes table) n 3
unfolding big_endian
table-limb table n {a} {b} {c} h ea eb ec =
    let z : n + 0 ≡ n = omega arith in
    let ka : get_or (word_bytes table) (n + 0) 0 ≡ a = ap (λ (k : ℕ). get_or (word_bytes table) k 0) z ∙ byte_at table n (omega arith) ∙ sym ea in
    let kb : get_or (word_bytes table) (n + 1) 0 ≡ b = byte_at table (n + 1) (omega arith) ∙ sym eb in
    let kc : get_or (word_bytes table) (n + 2) 0 ≡ c = byte_at table (n + 2) (omega arith) ∙ sym ec in
    omega arith

-- eight digits, highest first
then-digit : (c : ℕ) {x a b : ℕ} → x ≡ a → a * 256 + c ≡ b → x * 256 + c ≡ b
then-digit c e f = ap (λ (n : ℕ). n * 256 + c) e ∙ f

module _ (n : ℕ) (small : n < 2 ^ 64) where
  digit-0 : 0 * 256 + n / 2 ^ 56 % 256 ≡ n / 2 ^ 56
  digit-0 = omega arith

  digit-1 : n / 2 ^ 56 * 256 + n / 2 ^ 48 % 256 ≡ n / 2 ^ 48
  digit-1 = omega arith

  digit-2 : n / 2 ^ 48 * 256 + n / 2 ^ 40 % 256 ≡ n / 2 ^ 40
  digit-2 = omega arith

  digit-3 : n / 2 ^ 40 * 256 + n / 2 ^ 32 % 256 ≡ n / 2 ^ 32
  digit-3 = omega arith

  digit-4 : n / 2 ^ 32 * 256 + n / 2 ^ 24 % 256 ≡ n / 2 ^ 24
  digit-4 = omega arith

  digit-5 : n / 2 ^ 24 * 256 + n / 2 ^ 16 % 256 ≡ n / 2 ^ 16
  digit-5 = omega arith

  digit-6 : n / 2 ^ 16 * 256 + n / 2 ^ 8 % 256 ≡ n / 2 ^ 8
  digit-6 = omega arith

  digit-7 : n / 2 ^ 8 * 256 + n / 2 ^ 0 % 256 ≡ n
  digit-7 = omega arith

  eight-digits :
      (((((((0 * 256 + n / 2 ^ 56 % 256) * 256 + n / 2 ^ 48 % 256) * 256 + n / 2 ^ 40 % 256) * 256 + n / 2 ^ 32 % 256) * 256 + n / 2 ^ 24 % 256) * 256
      + n / 2 ^ 16 % 256) * 256 + n / 2 ^ 8 % 256) * 256 + n / 2 ^ 0 % 256
      ≡ n
  eight-digits =
      then-digit (n / 2 ^ 0 % 256) (then-digit (n / 2 ^ 8 % 256) (then-digit (n / 2 ^ 16 % 256) (then-digit (n / 2 ^ 24 % 256) (then-digit (n / 2 ^ 32 % 256) (then-digit (n / 2 ^ 40 % 256) (then-digit (n / 2 ^ 48 % 256) digit-0 digit-1) digit-2) digit-3) digit-4) digit-5) digit-6) digit-7

module _ (table : List ℕ) (w : ℕ) (h : w < length table) (small : get_or table w 0 < 2 ^ 64) where
  digit : (j : ℕ) → j < 8 → get_or (word_bytes table) (8 * w + j) 0 ≡ get_or table w 0 / 2 ^ (56 - 8 * j) % 256
  unfolding byte_of
  digit j l =
      let q : (8 * w + j) / 8 ≡ w = omega arith in
      let r : (8 * w + j) % 8 ≡ j = omega arith in
      byte_at table (8 * w + j) (omega arith) ∙ ap₂ (λ (m n : ℕ). get_or table m 0 / 2 ^ (56 - 8 * n) % 256) q r

  word-is : big_endian (word_bytes table) (8 * w) 8 ≡ get_or table w 0
  unfolding big_endian
  word-is =
      rw (digit 0 (omega arith), digit 1 (omega arith), digit 2 (omega arith), digit 3 (omega arith), digit 4 (omega arith), digit 5 (omega arith), digit 6 (omega arith), digit 7 (omega arith))
      (eight-digits (get_or table w 0) small)

module _ (table : List ℕ) (words : Below (2 ^ 64) table) (k : ℕ) (h : 3 * k + 2 < length table) where
  word_at : (w at : ℕ) → w < length table → at ≡ 8 * w → big_endian (word_bytes table) at 8 ≡ get_or table w 0
  word_at w at l e = ap (λ (n : ℕ). big_endian (word_bytes table) n 8) e ∙ word-is table w l (words.below w)

  entry-is : big_endian (word_bytes table) (24 * k) 24 ≡ entry_of table k
  unfolding entry_of
  entry-is =
      big-wide (word_bytes table) (24 * k)
      ∙ rw (word_at (3 * k) (24 * k) (omega arith) (omega arith), word_at (3 * k + 1) (24 * k + 8) (omega arith) (omega arith), word_at (3 * k + 2) (24 * k + 16) (omega arith) (omega arith)) refl

-- ---- its rows

pub laid_none : (table : List ℕ) (n : ℕ) {t : List ℕ} → t ≡ replicate n 16777216 → n ≡ 448 → LimbRows table 0 t
laid_none table n {t} e m =
    let b : Below 16777217 (replicate n 16777216) =
    subst (λ (l : List ℕ). Below 16777217 l) (tab-const n 16777216) (below-tab 16777217 n (λ k. 16777216) (omega arith) (λ k p. omega arith)) in
    rw e (record {
      long = length-replicate {A = ℕ} n 16777216 ∙ m;
      small = λ j. omega (arith, b.below j);
      laid = λ k i l p. absurd (omega arith);
      behind = λ k l p. get_or-replicate n (56 * 0 + k) 16777216 0 (omega arith);
      words = λ p. absurd (omega arith);
    })

module _ {table : List ℕ} {n : ℕ} {t t' : List ℕ} (old : LimbRows table n t)
    (new : Stored 0 t (56 * n) 51 (λ (k : ℕ). big_endian (word_bytes table) (24 * k + 3 * n) 3) t' × Below (2 ^ 64) table) where
  small_at : (j : ℕ) → Dec (j < 56 * n) → Dec (j < 56 * n + 51) → get_or t' j 0 ≤ 16777216
  small_at j (yes p) d = rw (new.0.below j p) (old.small j)
  small_at j (no p) (yes l) =
      let e : 56 * n + (j - 56 * n) ≡ j = omega arith in
      let v : get_or t' j 0 ≡ big_endian (word_bytes table) (24 * (j - 56 * n) + 3 * n) 3 =
      ap (λ (m : ℕ). get_or t' m 0) (sym e) ∙ new.0.inside (j - 56 * n) (omega arith) in
      omega (arith, v, three-lt (word_bytes table) (byte-lt table) (24 * (j - 56 * n) + 3 * n))
  small_at j (no p) (no l) = rw (new.0.above j (omega arith)) (old.small j)

  laid-at : (k i : ℕ) → k < 51 → i < n + 1 → Dec (i < n) → limbs_of t' k i ≡ big_endian (word_bytes table) (24 * k + 3 * i) 3
  laid-at k i l p (yes q) = new.0.below (56 * i + k) (omega arith) ∙ old.laid k i l q
  laid-at k i l p (no q) =
      let e : i ≡ n = omega arith in
      rw e (new.0.inside k l)

  behind-at : (k : ℕ) → 51 ≤ k → k < 56 → Dec (0 < n) → limbs_of t' k 0 ≡ 16777216
  behind-at k l p (yes q) = new.0.below (56 * 0 + k) (omega arith) ∙ old.behind k l p
  behind-at k l p (no q) = new.0.above (56 * 0 + k) (omega arith) ∙ old.behind k l p

  pub laid_next : LimbRows table (n + 1) t'
  laid_next = record {
    long = new.0.long ∙ old.long;
    small = λ j. small_at j (dec_lt j (56 * n)) (dec_lt j (56 * n + 51));
    laid = λ k i l p. laid-at k i l p (dec_lt i n);
    behind = λ k l p. behind-at k l p (dec_lt 0 n);
    words = λ p. new.1;
  }

-- ---- the count

pub tally-next : (f : ℕ → Bool) (k : ℕ) {size r : ℕ} → size ≡ tally k f → r ≡ bool_byte (f k) → size + r ≡ tally (k + 1) f
unfolding tally
tally-next f k e h = ap₂ (λ (m n : ℕ). m + n) e h ∙ ap (λ (n : ℕ). tally n f) (sym (add-one k))

tally-more : (f : ℕ → Bool) (m : ℕ) → ((k : ℕ) → 51 ≤ k → k < 51 + m → f k ≡ false) → tally (51 + m) f ≡ tally 51 f
unfolding tally
tally-more f zero h = refl
tally-more f (suc m) h =
    ap (λ (n : ℕ). tally n f) (add-suc 51 m)
    ∙ ap (λ (b : Bool). tally (51 + m) f + bool_byte b) (h (51 + m) (omega arith) (omega arith))
    ∙ omega (arith, tally-more f m (λ k l p. h k l (omega arith)))

tally-counted :
    (table : List ℕ) (x : ℕ) (f : ℕ → Bool) → length table ≡ 153 → ((k : ℕ) → k < 51 → f k ≡ leb (entry_of table k) x) → (k : ℕ) → k ≤ 51
    → Counted (entries table) x k (tally k f)
unfolding tally
tally-counted table x f n e zero h = counted_none _ _
tally-counted table x f n e (suc k) h =
    subst (λ (j : ℕ). Counted (entries table) x j (tally k f + bool_byte (f k))) (add-one k)
    (count-entry table (f k) (tally-counted table x f n e k (omega arith)) (omega arith) (e k (omega arith)))

module _ {table t v : List ℕ} (laid : LimbRows table 8 t) (n : length table ≡ 153) (small : Below 16777216 v) where
  within-entry : (k : ℕ) → k < 51 → passes (limbs_of t k) (limbs v) 0 8 ≡ leb (entry_of table k) (number (limbs v) 0 8)
  within-entry k h =
      let f : ℕ → ℕ = λ i. big_endian (word_bytes table) (24 * k + 3 * i) 3 in
      let z : 24 * k + 3 * 0 ≡ 24 * k = omega arith in
      passes_same (limbs_of t k) f (limbs v) 8 (λ i l. laid.laid k i h l) 0 8 (omega arith)
      ∙ passes-order f (limbs v) (λ i. three-lt (word_bytes table) (byte-lt table) (24 * k + 3 * i)) small.below 0 8
      ∙ ap (λ (m : ℕ). leb m (number (limbs v) 0 8))
      (number-big (word_bytes table) (24 * k) 0 8
      ∙ ap (λ (at : ℕ). big_endian (word_bytes table) at 24) z
      ∙ entry-is table (laid.words (omega arith)) k (omega arith))

  behind-entry : (k : ℕ) → 51 ≤ k → k < 51 + 5 → passes (limbs_of t k) (limbs v) 0 8 ≡ false
  unfolding passes
  behind-entry k l h =
      let b : Bool = passes (limbs_of t k) (limbs v) 1 7 in
      le-ltb (limbs_of t k 0) (limbs v 0 + bool_byte b) (omega (arith, laid.behind k l (omega arith), small.below 0, byte_le b))

  tally-is : tally 56 (λ (k : ℕ). passes (limbs_of t k) (limbs v) 0 8) ≡ at_most (entries table) (number (limbs v) 0 8)
  tally-is =
      let f : ℕ → Bool = λ k. passes (limbs_of t k) (limbs v) 0 8 in
      tally-more f 5 behind-entry
      ∙ counted-all (tally-counted table (number (limbs v) 0 8) f n within-entry 51 (omega arith)) (omega (arith, entries-long table))

-- the limbs of a value
below-cons : {q x : ℕ} {xs : List ℕ} → x < q → Below q xs → Below q (x ∷ xs)
below-cons {q} {x} {xs} h b = record { below = go }
  where
    go : (k : ℕ) → get_or (x ∷ xs) k 0 < q
    go zero = h
    go (suc k) = b.below k

module _ {a b c d e f g h : ℕ} where
  pub eight-below :
      a < 16777216 → b < 16777216 → c < 16777216 → d < 16777216 → e < 16777216 → f < 16777216 → g < 16777216 → h < 16777216
      → Below 16777216 (a ∷ b ∷ c ∷ d ∷ e ∷ f ∷ g ∷ h ∷ [])
  eight-below la lb lc ld le lf lg lh =
      below-cons la (below-cons lb (below-cons lc (below-cons ld (below-cons le (below-cons lf (below-cons lg (below-cons lh (record { below = λ k. omega arith }))))))))

  pub number-eight :
      (bs : List ℕ) (at : ℕ) → a ≡ big_endian bs at 3 → b ≡ big_endian bs (at + 3) 3 → c ≡ big_endian bs (at + 6) 3 → d ≡ big_endian bs (at + 9) 3
      → e ≡ big_endian bs (at + 12) 3 → f ≡ big_endian bs (at + 15) 3 → g ≡ big_endian bs (at + 18) 3 → h ≡ big_endian bs (at + 21) 3
      → number (limbs (a ∷ b ∷ c ∷ d ∷ e ∷ f ∷ g ∷ h ∷ [])) 0 8 ≡ big_endian bs at 24
  unfolding number
  number-eight bs at ea eb ec ed ee ef eg eh =
      let z : at + 3 * 0 ≡ at = omega arith in
      rw (ea ∙ ap (λ (m : ℕ). big_endian bs m 3) (sym z), eb, ec, ed, ee, ef, eg, eh) (number-big bs at 0 8 ∙ ap (λ (m : ℕ). big_endian bs m 24) z)

pub value-is :
    {table t v : List ℕ} → LimbRows table 8 t → length table ≡ 153 → Below 16777216 v → (bs : List ℕ) (k : ℕ) {n : ℕ}
    → number (limbs v) 0 8 ≡ big_endian bs (25 * k) 24 → n ≡ tally 56 (λ (j : ℕ). passes (limbs_of t j) (limbs v) 0 8)
    → with_sign (get_or bs (25 * k + 24) 0) n ≡ bcns_value_lem table bs k
unfolding bcns_value_lem
value-is {table} laid n small bs k e m =
    ap (λ (j : ℕ). with_sign (get_or bs (25 * k + 24) 0) j) (m ∙ tally-is laid n small ∙ ap (at_most (entries table)) e)
