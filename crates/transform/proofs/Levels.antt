-- The levels of the fast transform: from sums of length m at the stride 2h to sums of length 2m at the stride h.
--   part g a m s i o    the sum of length m over the entries o, o + s, o + 2s, .. of g, at the point 7^(s (a + 2i))
--   Holds g a m s xs    xs holds all of them modulo 12289, that of point i and offset o at i s + o, each in 16 bits
--   holds-start, holds-level, holds-end   before, at each level, and after
--   five-levels         half of the ten
--   Placed g a m s u v xs   likewise, that of point i and offset o at o u + i v
--   placed, placed-level, in_order   before the levels across, at each, and after
--   first-across, last-across   the other half: the sixth level and two across, and two more
use Rattle.lists.proofs.Kit.{◌≡◌, refl, ◌∙◌, sym, ap, ap₂, List, ℕ, ◌+◌, ◌-◌, ◌*◌, ◌/◌, ◌%◌, ◌^◌, ◌<◌, ◌≤◌, arith, dec_lt, mul_assoc, mul-le-mul_right, mod-lt}
use Rattle.lists.proofs.Kit.{div-add-mod', div-lt_iff_lt-mul, digits_div, pos, get_or, List·getD-eq-default, pow-add}
use Rattle.std.proofs.Common.{mul_left_comm}
use Rattle.numbers.specs.Sum.{sum, sum_ℕ}
use Rattle.numbers.proofs.Congruence.{eq-≅, refl-≅, sym-≅, ◌⨾◌, add-≅, mul-≅, mod-≅, same-mod}
use Rattle.numbers.proofs.{Sums.natural, Sums.sum-ext, Sums.sum-mul, Sums.sum-double, Modular.more-≅, Modular.sum_ℕ-≅}
use Rattle.lists.specs.Ranges.{Below}
use Rattle.lists.proofs.Entries.{tab-ext}
use Rattle.transform.specs.Level.{tight, factor, powered, low, high, Half, first, second, place, butterfly, entry, beside, Butterflies, Powers, Crossed}
use Rattle.transform.specs.Level.{remainders, sums}
use Rattle.transform.proofs.{Seven.◌≈◌, Seven.seven-turn, Seven.seven-minus, Words.quotient-≤, Words.tight-lt, Words.powered-lt}

pub part : List ℕ → ℕ → ℕ → ℕ → ℕ → ℕ → ℕ
part g a m s i o = sum_ℕ m (λ j. get_or g (o + j * s) 0 * 7 ^ (s * j * (a + 2 * i)))

pub record Holds (g : List ℕ) (a m s : ℕ) (xs : List ℕ) : Type 0 where
  pub small : Below 65536 xs
  pub holds : (i o : ℕ) → i < m → o < s → get_or xs (i * s + o) 0 ≈ part g a m s i o

-- ---- x + w y and x - w y

-- less a multiple
less_multiple : (x d : ℕ) → d * 12289 ≤ x → x - d * 12289 ≈ x
less_multiple x d h =
    let e : x - d * 12289 + d * 12289 ≡ x = omega arith in
    sym-≅ (more-≅ (x - d * 12289) d) ⨾ eq-≅ (ap pos e)

tight-≅ : (x : ℕ) → tight x ≈ x
unfolding tight
tight-≅ x = less_multiple x (5 * x / 65536) (omega arith)

powered-≅ : (w y : ℕ) → powered w y ≈ w * y
unfolding powered
powered-≅ w y = less_multiple (w * y) (y * factor w / 65536) (quotient-≤ w y)

less-≅ : (x t : ℕ) → t ≤ 24578 → x + 24578 - t ≈ x + 12288 * t
less-≅ x t h =
    let e : x + 24578 - t + t * 12289 ≡ x + 12288 * t + 2 * 12289 = omega arith in
    sym-≅ (more-≅ (x + 24578 - t) t) ⨾ eq-≅ (ap pos e) ⨾ more-≅ (x + 12288 * t) 2

-- ---- a sum from two of half its length

module _ (g : List ℕ) (a : ℕ) where
  -- the even terms are a sum of half the length, and the odd ones another, times a power
  part-double : (m h i o : ℕ) → part g a (2 * m) h i o ≡ part g a m (2 * h) i o + 7 ^ (h * (a + 2 * i)) * part g a m (2 * h) i (o + h)
  unfolding part
  part-double m h i o =
      sum-double natural m _ ∙ ap₂ (λ (x y : ℕ). x + y) (sum-ext natural m _ _ even) (sum-ext natural m _ _ odd ∙ sum-mul natural m (7 ^ (h * (a + 2 * i))) _)
    where
      even : (j : ℕ) → j < m → get_or g (o + 2 * j * h) 0 * 7 ^ (h * (2 * j) * (a + 2 * i)) ≡ get_or g (o + j * (2 * h)) 0 * 7 ^ (2 * h * j * (a + 2 * i))
      even j l = ap₂ (λ (x y : ℕ). get_or g x 0 * 7 ^ y) (omega arith) (omega arith)

      odd : (j : ℕ) → j < m → get_or g (o + (2 * j + 1) * h) 0 * 7 ^ (h * (2 * j + 1) * (a + 2 * i)) ≡ 7 ^ (h * (a + 2 * i)) * (get_or g (o + h + j * (2 * h)) 0 * 7 ^ (2 * h * j * (a + 2 * i)))
      odd j l =
          let e : h * (2 * j + 1) * (a + 2 * i) ≡ h * (a + 2 * i) + 2 * h * j * (a + 2 * i) = omega arith in
          ap₂ (λ (x y : ℕ). get_or g x 0 * 7 ^ y) (omega arith) e
          ∙ ap (λ (y : ℕ). get_or g (o + h + j * (2 * h)) 0 * y) (pow-add 7 (h * (a + 2 * i)) (2 * h * j * (a + 2 * i)))
          ∙ mul_left_comm _ _ _

  -- the points repeat after m
  part-period : (m s i o : ℕ) → m * s ≡ 1024 → part g a m s (m + i) o ≈ part g a m s i o
  unfolding part
  part-period m s i o fit = sum_ℕ-≅ m _ _ same
    where
      same : (j : ℕ) → j < m → get_or g (o + j * s) 0 * 7 ^ (s * j * (a + 2 * (m + i))) ≈ get_or g (o + j * s) 0 * 7 ^ (s * j * (a + 2 * i))
      same j l =
          let f : s * j * (a + 2 * (m + i)) ≡ s * j * (a + 2 * i) + 2 * (m * s) * j = omega arith in
          let e : s * j * (a + 2 * (m + i)) ≡ s * j * (a + 2 * i) + 2048 * j = f ∙ ap (λ (n : ℕ). s * j * (a + 2 * i) + 2 * n * j) fit in
          mul-≅ (refl-≅ (pos (get_or g (o + j * s) 0))) (eq-≅ (ap (λ (n : ℕ). pos (7 ^ n)) e) ⨾ seven-turn (s * j * (a + 2 * i)) j)

  module _ (m h i o w x y : ℕ) (hw : w ≈ 7 ^ (h * (a + 2 * i))) (hx : x ≈ part g a m (2 * h) i o) (hy : y ≈ part g a m (2 * h) i (o + h)) where
    step-low : low w x y ≈ part g a (2 * m) h i o
    unfolding low
    step-low = add-≅ (tight-≅ x ⨾ hx) (powered-≅ w y ⨾ mul-≅ hw hy) ⨾ eq-≅ (ap pos (sym (part-double m h i o)))

    step-high : y < 65536 → m * h ≡ 512 → high w x y ≈ part g a (2 * m) h (m + i) o
    unfolding high
    step-high room fit =
        let e : m * (2 * h) ≡ 1024 = omega arith in
        let f : h * (a + 2 * (m + i)) ≡ 2 * (m * h) + h * (a + 2 * i) = omega arith in
        let p : 7 ^ (h * (a + 2 * (m + i))) ≈ 12288 * 7 ^ (h * (a + 2 * i)) =
        eq-≅ (ap (λ (n : ℕ). pos (7 ^ n)) (f ∙ ap (λ (n : ℕ). 2 * n + h * (a + 2 * i)) fit)) ⨾ seven-minus (h * (a + 2 * i)) in
        less-≅ (tight x) (powered w y) (omega (arith, powered-lt w y room))
        ⨾ add-≅ (tight-≅ x ⨾ hx) (mul-≅ (refl-≅ (pos 12288)) (powered-≅ w y ⨾ mul-≅ hw hy))
        ⨾ sym-≅
        (eq-≅ (ap pos (part-double m h (m + i) o))
        ⨾ add-≅ (part-period m (2 * h) i o e) (mul-≅ p (part-period m (2 * h) i (o + h) e) ⨾ eq-≅ (ap pos (mul_assoc 12288 _ _))))

-- ---- a level: one halving

-- the point of an entry, from that of the two it is made of
block : ℕ → Half → ℕ → ℕ
block m first i = i
block m second i = m + i

butterfly-lt : (c : Half) (src : List ℕ) (w r h : ℕ) → Below 65536 src → butterfly c src w r h < 65536
unfolding butterfly low high
butterfly-lt first src w r h s = omega (arith, tight-lt (get_or src r 0) (s.below r), powered-lt w (get_or src (r + h) 0) (s.below (r + h)))
butterfly-lt second src w r h s = omega (arith, tight-lt (get_or src r 0) (s.below r))

module _ (g src : List ℕ) (a m h : ℕ) (fit : m * h ≡ 512) (had : Holds g a m (2 * h) src) where
  module _ (i o : ℕ) (hi : i < m) (ho : o < h) where
    -- the two entries that are read
    read : (d r : ℕ) → d < 2 * h → r ≡ i * (2 * h) + d → get_or src r 0 ≈ part g a m (2 * h) i d
    read d r l e = eq-≅ (ap (λ (n : ℕ). pos (get_or src n 0)) e) ⨾ had.holds i d hi l

    butterfly-≅ : (w r : ℕ) → r ≡ i * (2 * h) + o → w ≈ 7 ^ (h * (a + 2 * i)) → (c : Half) → butterfly c src w r h ≈ part g a (2 * m) h (block m c i) o
    unfolding butterfly block
    butterfly-≅ w r hr hw first = step-low g a m h i o w _ _ hw (read o r (omega arith) hr) (read (o + h) (r + h) (omega arith) (omega arith))
    butterfly-≅ w r hr hw second =
        step-high g a m h i o w _ _ hw (read o r (omega arith) hr) (read (o + h) (r + h) (omega arith) (omega arith)) (had.small.below (r + h)) fit

    entry-≅ : (c : Half) → entry c src a h (i * h + o) ≈ part g a (2 * m) h (block m c i) o
    unfolding entry
    entry-≅ c =
        let d : (i * h + o) / h ≡ i = digits_div i ho in
        rw d (butterfly-≅ _ (i * h + o + i * h) (omega arith) (mod-≅ 12289 _) c)

  module _ (dst : List ℕ) (new : Butterflies src a h 512 dst) where
    -- each entry stands in a half
    at-≅ : (c : Half) (i o : ℕ) → i < m → o < h → get_or dst (i * h + o + place c) 0 ≈ part g a (2 * m) h (block m c i) o
    at-≅ c i o hi ho =
        let l : (i + 1) * h ≤ m * h = mul-le-mul_right h (omega arith) in
        eq-≅ (ap pos (new.made c (i * h + o) (omega arith))) ⨾ entry-≅ i o hi ho c

    moved : (c : Half) (i o j : ℕ) → j ≡ block m c i → i < m → o < h → i * h + o + place c ≡ j * h + o → get_or dst (j * h + o) 0 ≈ part g a (2 * m) h j o
    moved c i o j e hi ho p =
        eq-≅ (ap (λ (n : ℕ). pos (get_or dst n 0)) (sym p)) ⨾ at-≅ c i o hi ho ⨾ eq-≅ (ap (λ (n : ℕ). pos (part g a (2 * m) h n o)) (sym e))

    all-≅ : (j o : ℕ) → j < 2 * m → o < h → get_or dst (j * h + o) 0 ≈ part g a (2 * m) h j o
    unfolding block place
    all-≅ j o hj ho = go (dec_lt j m)
      where
        go : Dec (j < m) → get_or dst (j * h + o) 0 ≈ part g a (2 * m) h j o
        go (yes p) = moved first j o j refl p ho (omega arith)
        go (no p) =
            let e : j ≡ m + (j - m) = omega arith in
            moved second (j - m) o j e (omega arith) ho (omega (arith, ap (λ (n : ℕ). n * h) e))

    made-lt : (c : Half) (j k : ℕ) → j < 512 → k ≡ j + place c → get_or dst k 0 < 65536
    unfolding entry
    made-lt c j k l e = rw (e, new.made c j l) (butterfly-lt c src _ _ h had.small)

    all-lt : (k : ℕ) → get_or dst k 0 < 65536
    unfolding place
    all-lt k = go (dec_lt k 512) (dec_lt k 1024)
      where
        go : Dec (k < 512) → Dec (k < 1024) → get_or dst k 0 < 65536
        go (yes p) q = made-lt first k k p (omega arith)
        go (no p) (yes q) = made-lt second (k - 512) k (omega arith) (omega arith)
        go (no p) (no q) = rw (List·getD-eq-default dst 0 {n = k} (omega (arith, new.size))) (omega arith)

    pub holds-level : Holds g a (2 * m) h dst
    holds-level = record { small = record { below = all-lt }; holds = all-≅ }

-- ---- a level across

pub record Placed (g : List ℕ) (a m s u v : ℕ) (xs : List ℕ) : Type 0 where
  pub small : Below 65536 xs
  pub holds : (i o : ℕ) → i < m → o < s → get_or xs (o * u + i * v) 0 ≈ part g a m s i o

pub placed : {g xs : List ℕ} {a m s : ℕ} → Holds g a m s xs → Placed g a m s 1 s xs
placed {g} {xs} {a} {m} {s} had =
    record {
      small = had.small;
      holds =
          λ i o p q.
          let e : o * 1 + i * s ≡ i * s + o = omega arith in
          eq-≅ (ap (λ (n : ℕ). pos (get_or xs n 0)) e) ⨾ had.holds i o p q;
    }

module _ (g src ws fs dst : List ℕ) (a m h u v : ℕ) (fit : h * m ≡ 512) (had : Placed g a m (2 * h) u v src) (ps : Powers a h m ws fs) (new : Crossed src ws h m u v 512 dst) where
  module _ (i o : ℕ) (hi : i < m) (ho : o < h) where
    across-in : o * m + i < 512
    across-in = omega (arith, mul-le-mul_right m ho)

    across-w : get_or ws i 0 ≈ 7 ^ (h * (a + 2 * i))
    across-w = eq-≅ (ap pos (ps.power i hi)) ⨾ mod-≅ 12289 _

    across-y : get_or src (o * u + i * v + h * u) 0 ≈ part g a m (2 * h) i (o + h)
    across-y =
        let e : o * u + i * v + h * u ≡ (o + h) * u + i * v = omega arith in
        eq-≅ (ap (λ (n : ℕ). pos (get_or src n 0)) e) ⨾ had.holds i (o + h) hi (omega arith)

    across : (c : Half) → butterfly c src (get_or ws i 0) (o * u + i * v) (h * u) ≈ part g a (2 * m) h (block m c i) o
    unfolding butterfly block
    across first = step-low g a m h i o _ _ _ across-w (had.holds i o hi (omega arith)) across-y
    across second =
        step-high g a m h i o _ _ _ across-w (had.holds i o hi (omega arith)) across-y (had.small.below (o * u + i * v + h * u)) (omega arith)

    across-at : (c : Half) → get_or dst (o * (2 * m) + i + beside m c) 0 ≈ part g a (2 * m) h (block m c i) o
    across-at c = eq-≅ (ap pos (new.made c o i hi across-in)) ⨾ across c

    across_lt : (c : Half) → get_or dst (o * (2 * m) + i + beside m c) 0 < 65536
    across_lt c = rw (new.made c o i hi across-in) (butterfly-lt c src _ _ _ had.small)

  across-all : (j o : ℕ) → j < 2 * m → o < h → get_or dst (o * (2 * m) + j * 1) 0 ≈ part g a (2 * m) h j o
  unfolding block beside
  across-all j o hj ho = go (dec_lt j m)
    where
      go : Dec (j < m) → get_or dst (o * (2 * m) + j * 1) 0 ≈ part g a (2 * m) h j o
      go (yes p) =
          let e : o * (2 * m) + j * 1 ≡ o * (2 * m) + j + 0 = omega arith in
          eq-≅ (ap (λ (n : ℕ). pos (get_or dst n 0)) e) ⨾ across-at j o p ho first
      go (no p) =
          let e : o * (2 * m) + j * 1 ≡ o * (2 * m) + (j - m) + m = omega arith in
          let f : m + (j - m) ≡ j = omega arith in
          eq-≅ (ap (λ (n : ℕ). pos (get_or dst n 0)) e)
          ⨾ across-at (j - m) o (omega arith) ho second
          ⨾ eq-≅ (ap (λ (n : ℕ). pos (part g a (2 * m) h n o)) f)

  -- entry k is entry j of row o
  row_lt : (k o j : ℕ) → j < 2 * m → o < h → k ≡ o * (2 * m) + j → get_or dst k 0 < 65536
  unfolding beside
  row_lt k o j hj ho e = go (dec_lt j m)
    where
      go : Dec (j < m) → get_or dst k 0 < 65536
      go (yes p) =
          let d : k ≡ o * (2 * m) + j + 0 = omega arith in
          rw d (across_lt j o p ho first)
      go (no p) =
          let d : k ≡ o * (2 * m) + (j - m) + m = omega arith in
          rw d (across_lt (j - m) o (omega arith) ho second)

  across-small : 0 < m → (k : ℕ) → get_or dst k 0 < 65536
  across-small pos-m k = go (dec_lt k 1024)
    where
      go : Dec (k < 1024) → get_or dst k 0 < 65536
      go (yes p) =
          let e : k ≡ k / (2 * m) * (2 * m) + k % (2 * m) = omega (arith, div-add-mod' k (2 * m)) in
          let l : k < h * (2 * m) = omega arith in
          row_lt k (k / (2 * m)) (k % (2 * m)) (mod-lt k (omega arith)) ((div-lt_iff_lt-mul (omega arith)).1 l) e
      go (no p) = rw (List·getD-eq-default dst 0 {n = k} (omega (arith, new.size))) (omega arith)

  pub placed-level : 0 < m → Placed g a (2 * m) h (2 * m) 1 dst
  placed-level p = record { small = record { below = across-small p }; holds = λ j o. across-all j o }

-- ---- before the first level, and after the last

-- a sum of length 1 is the entry itself
pub holds-start : (g xs : List ℕ) (a : ℕ) → xs ≡ g → Below 12289 g → Holds g a 1 1024 xs
unfolding part sum
holds-start g xs a e s = rw e (record { small = record { below = λ k. omega (arith, s.below k) }; holds = λ i o p q. eq-≅ (ap pos (only i o p)) })
  where
    only : (i o : ℕ) → i < 1 → get_or g (i * 1024 + o) 0 ≡ 0 + get_or g (o + 0 * 1024) 0 * 7 ^ (1024 * 0 * (a + 2 * i))
    only i o p =
        let e : i * 1024 + o ≡ o + 0 * 1024 = omega arith in
        let z : 1024 * 0 * (a + 2 * i) ≡ 0 = omega arith in
        ap (λ (n : ℕ). get_or g n 0) e ∙ sym (ap (λ (n : ℕ). 0 + get_or g (o + 0 * 1024) 0 * 7 ^ n) z ∙ omega arith)

pub five-levels :
    (g : List ℕ) (a m h : ℕ) {x0 x1 x2 x3 x4 x5 : List ℕ} → 16 * m * h ≡ 512 → Holds g a m (2 * (16 * h)) x0 →
    Butterflies x0 a (16 * h) 512 x1 → Butterflies x1 a (8 * h) 512 x2 → Butterflies x2 a (4 * h) 512 x3 → Butterflies x3 a (2 * h) 512 x4 → Butterflies x4 a h 512 x5 →
    Holds g a (2 * (16 * m)) h x5
five-levels g a m h e had j1 j2 j3 j4 j5 =
    let n1 = next m (16 * h) (8 * h) (2 * m) (omega arith) (omega arith) (omega arith) had j1 in
    let n2 = next (2 * m) (8 * h) (4 * h) (4 * m) (omega arith) (omega arith) (omega arith) n1 j2 in
    let n3 = next (4 * m) (4 * h) (2 * h) (8 * m) (omega arith) (omega arith) (omega arith) n2 j3 in
    let n4 = next (8 * m) (2 * h) h (16 * m) (omega arith) (omega arith) (omega arith) n3 j4 in
    holds-level g _ a (16 * m) h (omega arith) n4 _ j5
  where
    next : (m h k n : ℕ) {x y : List ℕ} → m * h ≡ 512 → h ≡ 2 * k → 2 * m ≡ n → Holds g a m (2 * h) x → Butterflies x a h 512 y → Holds g a n (2 * k) y
    next m h k n f d w had j = rw (← d, ← w) (holds-level g _ a m h f had _ j)

-- the sixth level and two across, and two more
pub first-across :
    {g x0 x1 x2 x3 w1 f1 w2 f2 : List ℕ} {a : ℕ} → Holds g a 32 32 x0 → Butterflies x0 a 16 512 x1 →
    Powers a 8 64 w1 f1 → Crossed x1 w1 8 64 1 16 512 x2 → Powers a 4 128 w2 f2 → Crossed x2 w2 4 128 128 1 512 x3 → Placed g a 256 4 256 1 x3
first-across {g} {x0} {x1} {x2} {x3} {w1} {f1} {w2} {f2} {a} had j0 p1 j1 p2 j2 =
    let n0 : Holds g a 64 16 x1 = holds-level g _ a 32 16 refl had _ j0 in
    let n1 : Placed g a 128 8 128 1 x2 = placed-level g x1 w1 f1 x2 a 64 8 1 16 refl (placed n0) p1 j1 (omega arith) in
    placed-level g x2 w2 f2 x3 a 128 4 128 1 refl n1 p2 j2 (omega arith)

pub last-across :
    {g x0 x1 x2 w1 f1 w2 f2 : List ℕ} {a : ℕ} → Placed g a 256 4 256 1 x0 →
    Powers a 2 256 w1 f1 → Crossed x0 w1 2 256 256 1 512 x1 → Powers a 1 512 w2 f2 → Crossed x1 w2 1 512 512 1 512 x2 → Placed g a 1024 1 1024 1 x2
last-across {g} {x0} {x1} {x2} {w1} {f1} {w2} {f2} {a} had p1 j1 p2 j2 =
    let n : Placed g a 512 2 512 1 x1 = placed-level g x0 w1 f1 x1 a 256 2 256 1 refl had p1 j1 (omega arith) in
    placed-level g x1 w2 f2 x2 a 512 1 512 1 refl n p2 j2 (omega arith)

-- where all entries are, they stand in their order
pub in_order : {g xs : List ℕ} {a : ℕ} → Placed g a 1024 1 1024 1 xs → Holds g a 1024 1 xs
in_order {g} {xs} had =
    record {
      small = had.small;
      holds =
          λ i o p q.
          let e : i * 1 + o ≡ o * 1024 + i * 1 = omega arith in
          eq-≅ (ap (λ (n : ℕ). pos (get_or xs n 0)) e) ⨾ had.holds i o p q;
    }

-- a sum of length 1,024 is the whole
pub holds-end : (g xs : List ℕ) (a : ℕ) → Holds g a 1024 1 xs → remainders xs ≡ sums a g
unfolding part sums remainders
holds-end g xs a had = tab-ext 1024 _ _ same
  where
    each : (i j : ℕ) → get_or g (0 + j * 1) 0 * 7 ^ (1 * j * (a + 2 * i)) ≡ get_or g j 0 * 7 ^ (j * (a + 2 * i))
    each i j = ap₂ (λ (x y : ℕ). get_or g x 0 * 7 ^ y) (omega arith) (omega arith)

    same : (i : ℕ) → i < 1024 → get_or xs i 0 % 12289 ≡ sum_ℕ 1024 (λ j. get_or g j 0 * 7 ^ (j * (a + 2 * i))) % 12289
    same i p =
        let e : i ≡ i * 1 + 0 = omega arith in
        ap (λ (n : ℕ). get_or xs n 0 % 12289) e
        ∙ same-mod (omega arith) (had.holds i 0 p (omega arith) ⨾ eq-≅ (ap pos (sum-ext natural 1024 _ _ (λ j l. each i j))))
