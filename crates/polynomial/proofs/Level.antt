-- The sums of a window and secrets in the code: by the plain rule, from halves of 16 bits, and from three times half as many.
--   slide-size              the sums of halves and secrets fit 32 bits
--   dot-pair, dot-part      what a dot product asks, and what it is
--   halving-next            one more number, whose two halves are laid
--   laid-high, laid-low     they are what the dot products ask
--   sums-small, leaf-made   the sums of both halves, their size, and what they are put together
--   made-ext                the sums of numbers that are congruent, and of the same secrets
--   may-add                 two entries that are not too large
--   added-small, joined     what is added to both halves
--   three-small, level-made both halves of the sums from three products, and that they fit
--   low-*, high-*, middle-* what these three are lent, and what they make
--   few-size                where there are many secrets, none is large
--   ready_at, made_at       by another count
use Rattle.lists.proofs.Kit.{◌≡◌, ◌∙◌, sym, ap, ap₂, subst, List, ℕ, ◌+◌, ◌-◌, ◌*◌, ◌^◌, ◌<◌, ◌≤◌, arith, dec_lt, mul-le-mul, le_refl, length, get_or, set}
use Rattle.lists.proofs.Kit.{take, drop, length-set, get_or-take, get_or-drop, get_or-set_same, get_or-set_other, Width, SFits, hbits, ℤ, pos, nat_abs, ◌+ℤ◌}
use Rattle.lists.proofs.Kit.{◌-ℤ◌, ◌*ℤ◌}
use borrow.Author.Count.{below_more}
use Rattle.numbers.specs.{Residue.residue, Congruence.◌≅⟨◌⟩◌}
use Rattle.numbers.proofs.Congruence.{eq-≅, ◌⨾◌, add-≅, residue-lt, residue-≅}
use Rattle.numbers.proofs.Sums.{whole, sum-ext, sum-add, sum-mul-right}
use Rattle.std.proofs.lemmas.List.{get_or_default}
use Rattle.numbers.proofs.{Machine.fits-abs, Difference.as-diff, Difference.diff-≡, Difference.diffs, Size.abs-add, Size.abs-mul, Size.abs-mul-≤, Size.abs-sum}
use Rattle.lists.specs.{Entries.nums, Entries.ints, Ranges.Stored}
use Rattle.lists.proofs.{Parts.slice-long, Parts.slice_at, Parts.front_long, Parts.part, Stored.front_at}
use Rattle.polynomial.specs.Steps.{lift, upper, lower, dot, span, slide, Pair, Few, Ready, Prepared, Halved, Made, Joined}
use Rattle.polynomial.proofs.Three.{slide-≅, three-low, three-high, few-low, few-high, few-middle, few-ext}
use Rattle.polynomial.proofs.Halves.{upper-small, lower-small, lift-lt, halves-≅}
use Rattle.polynomial.proofs.{Stores.ints-is, Stores.part-entry, Stores.take_within}

-- (x s) c + y s = (x c + y) s
regroup : (x y s c : ℤ) → (x *ℤ s) *ℤ c +ℤ y *ℤ s ≡ (x *ℤ c +ℤ y) *ℤ s
regroup x y s c = rw (as-diff x, as-diff y, as-diff s, as-diff c) (simp diffs (diff-≡ _ _ _ _ (omega arith)))

-- ---- one dot product

pub slide-size : (n : ℕ) (w s : ℕ → ℤ) (k : ℕ) → k < n → ((i : ℕ) → i < n + n → nat_abs (w i) ≤ 32768) → Few n s → nat_abs (slide n w s k) ≤ 1711276032
unfolding slide dot
slide-size n w s k h hw f =
    omega (arith, abs-sum n (32768 * f.size) (λ j. w (k + j) *ℤ s j) (λ j l. abs-mul-≤ (w (k + j)) (s j) (hw (k + j) (omega arith)) (f.within j l)), f.room)

module _ {x n : ℕ} {t : List ℤ} (h : Prepared x n t) (k : ℕ) (l : k < n) where
  -- the part of the halves that is lent
  abbrev lent : List ℤ
  lent = take (x + k + n - (x + k)) (drop (x + k) t)

  lent-long : length lent ≡ n
  lent-long = slice-long (x + k) n t (omega (arith, h.long))

  pub dot-pair : Pair lent (take n t)
  unfolding ints
  dot-pair =
      record {
        same = front_long n t h.front ∙ sym lent-long;
        size = h.secrets.size;
        room = rw lent-long h.secrets.room;
        w-within =
            take_within 32768 (x + k + n - (x + k)) (drop (x + k) t) (λ j p.
            let e : x + k + j ≡ x + (k + j) = omega arith in
            rw (get_or-drop (x + k) t j (pos 0), e) (h.halves (k + j) (omega arith)));
        s-within = take_within h.secrets.size n t (λ j p. h.secrets.within j p);
      }

  pub dot-part : span (length lent) lent (take n t) 0 ≡ slide n (λ i. ints t (x + i)) (ints t) k
  unfolding span slide dot ints
  dot-part =
      ap (λ (m : ℕ). dot m (λ j. ints lent (0 + j)) (λ j. ints (take n t) (0 + j))) lent-long
      ∙ sum-ext whole n _ _ (λ j p.
      let e : 0 + j ≡ j = omega arith in
      let f : x + k + j ≡ x + (k + j) = omega arith in
      ap₂ (λ (y z : ℤ). y *ℤ z)
      (ap (λ (i : ℕ). get_or lent i (pos 0)) e ∙ slice_at (x + k) n t (pos 0) j p ∙ ap (λ (i : ℕ). get_or t i (pos 0)) f)
      (ap (λ (i : ℕ). get_or (take n t) i (pos 0)) e ∙ get_or-take n t j (pos 0) p))

-- ---- the plain rule

-- the first i halves of either kind are laid
pub record Halving (q n : ℕ) (d : List ℕ) (t t' : List ℤ) (i : ℕ) : Type 0 where
  pub long : length t' ≡ length t
  pub secrets : (j : ℕ) → j < n → ints t' j ≡ ints t j
  pub high : (k : ℕ) → k < i → ints t' (n + k) ≡ upper (lift q (get_or d k 0))
  pub low : (k : ℕ) → k < i → ints t' (3 * n + k) ≡ lower (lift q (get_or d k 0))

module _ {q n : ℕ} {d : List ℕ} {t : List ℤ} where
  pub halving-next :
      {t' : List ℤ} {i : ℕ} {h l : ℤ} → Halving q n d t t' i → i < n + n → 5 * n ≤ length t → h ≡ upper (lift q (get_or d i 0)) → l ≡ lower (lift q (get_or d i 0)) →
      Halving q n d t (set (set t' (n + i) h) (3 * n + i) l) (i + 1)
  unfolding ints
  halving-next {t'} {i} {h} {l} old p r eh el =
      let u = set t' (n + i) h in
      let both : length u ≡ length t = simp length-set old.long in
      record {
        long = simp length-set old.long;
        secrets = λ j g. get_or-set_other u (3 * n + i) j l (pos 0) (omega arith) ∙ get_or-set_other t' (n + i) j h (pos 0) (omega arith) ∙ old.secrets j g;
        high =
            below_more _ i
            (λ k g. get_or-set_other u (3 * n + i) (n + k) l (pos 0) (omega arith) ∙ get_or-set_other t' (n + i) (n + k) h (pos 0) (omega arith) ∙ old.high k g)
            (get_or-set_other u (3 * n + i) (n + i) l (pos 0) (omega arith) ∙ get_or-set_same t' (n + i) h (pos 0) (omega (arith, old.long)) ∙ eh);
        low =
            below_more _ i
            (λ k g. get_or-set_other u (3 * n + i) (3 * n + k) l (pos 0) (omega arith) ∙ get_or-set_other t' (n + i) (3 * n + k) h (pos 0) (omega arith) ∙ old.low k g)
            (get_or-set_same u (3 * n + i) l (pos 0) (omega (arith, both)) ∙ el);
      }

module _ {q n : ℕ} {d : List ℕ} {t t' : List ℤ} (r : Ready q n d t) (h : Halved q n d t t') (long : 5 * n ≤ length t) where
  secrets' : Few n (ints t')
  secrets' = few-ext r.secrets h.secrets

  high_small : (i : ℕ) → i < n + n → nat_abs (ints t' (n + i)) ≤ 32768
  high_small i p = rw (h.high i p) (upper-small _ (lift-lt q _ (r.below i p) r.modulus))

  low_small : (i : ℕ) → i < n + n → nat_abs (ints t' (3 * n + i)) ≤ 32768
  low_small i p = rw (h.low i p) (lower-small _)

  pub laid-high : Prepared n n t'
  laid-high = record { long = omega (arith, h.long); front = omega (arith, h.long); halves = high_small; secrets = secrets' }

  pub laid-low : Prepared (3 * n) n t'
  laid-low = record { long = omega (arith, h.long); front = omega (arith, h.long); halves = low_small; secrets = secrets' }

  -- the sums of both halves with the secrets
  abbrev highs : ℕ → ℤ
  highs = slide n (λ i. ints t' (n + i)) (ints t')

  abbrev lows : ℕ → ℤ
  lows = slide n (λ i. ints t' (3 * n + i)) (ints t')

  module _ {o o₁ o₂ : List ℤ} (s₁ : Stored (pos 0) o 0 n highs o₁) (s₂ : Stored (pos 0) o₁ n n lows o₂) where
    high-at : (k : ℕ) → k < n → ints o₂ k ≡ highs k
    unfolding ints
    high-at k p = s₂.below k p ∙ front_at s₁ k p

    low-at : (k : ℕ) → k < n → ints o₂ (n + k) ≡ lows k
    unfolding ints
    low-at k p = s₂.inside k p

    highs-small : (k : ℕ) → k < n → nat_abs (ints o₂ k) ≤ 1711276032
    highs-small k p = rw (high-at k p) (slide-size n _ _ k p high_small secrets')

    lows-small : (k : ℕ) → k < n → nat_abs (ints o₂ (n + k)) ≤ 1711276032
    lows-small k p = rw (low-at k p) (slide-size n _ _ k p low_small secrets')

    pub sums-small : (k : ℕ) → k < n + n → nat_abs (ints o₂ k) ≤ 2 ^ 31
    sums-small k p = go (dec_lt k n)
      where
        go : Dec (k < n) → nat_abs (ints o₂ k) ≤ 2 ^ 31
        go (yes l) = omega (arith, highs-small k l)
        go (no l) =
            let e : n + (k - n) ≡ k = omega arith in
            let s : nat_abs (ints o₂ k) ≤ 1711276032 = rw e at (lows-small (k - n) (omega arith)) in
            omega (arith, s)

    -- two sums with the same secrets are one
    one-sum : (k : ℕ) → highs k *ℤ pos 65536 +ℤ lows k ≡ slide n (λ i. ints t' (n + i) *ℤ pos 65536 +ℤ ints t' (3 * n + i)) (ints t') k
    unfolding slide dot
    one-sum k =
        ap (λ (x : ℤ). x +ℤ lows k) (sym (sum-mul-right whole n (pos 65536) _))
        ∙ sym (sum-add whole n _ _)
        ∙ sum-ext whole n _ _ (λ j p. regroup (ints t' (n + (k + j))) (ints t' (3 * n + (k + j))) (ints t' j) (pos 65536))

    halves-at : (i : ℕ) → i < n + n → ints t' (n + i) *ℤ pos 65536 +ℤ ints t' (3 * n + i) ≅⟨ q ⟩ nums d i
    unfolding nums
    halves-at i p =
        eq-≅ (ap₂ (λ (x y : ℤ). x *ℤ pos 65536 +ℤ y) (h.high i p) (h.low i p)) ⨾ halves-≅ q (get_or d i 0) (r.below i p) r.modulus

    pub leaf-made : {o₃ : List ℤ} → Stored (pos 0) o₂ 0 n (λ k. ints o₂ k *ℤ pos 65536 +ℤ ints o₂ (n + k)) o₃ → Made q n (nums d) (ints t) o₃
    leaf-made {o₃} s₃ = record { at = λ k p. eq-≅ (sum-at k p) ⨾ eq-≅ (one-sum k) ⨾ slide-≅ n _ (nums d) (ints t') (ints t) k p (λ i g. halves-at i (omega arith)) h.secrets; size = small }
      where
        put-at : (k : ℕ) → k < n → ints o₃ k ≡ ints o₂ k *ℤ pos 65536 +ℤ ints o₂ (n + k)
        put-at k p = ints-is o₃ k ∙ front_at s₃ k p

        sum-at : (k : ℕ) → k < n → ints o₃ k ≡ highs k *ℤ pos 65536 +ℤ lows k
        sum-at k p = put-at k p ∙ ap₂ (λ (x y : ℤ). x *ℤ pos 65536 +ℤ y) (high-at k p) (low-at k p)

        small : (k : ℕ) → k < n → nat_abs (ints o₃ k) ≤ n * 2 ^ 47
        small k p =
            rw (put-at k p)
            (omega (arith, abs-add (ints o₂ k *ℤ pos 65536) (ints o₂ (n + k)), abs-mul (ints o₂ k) (pos 65536), highs-small k p, lows-small k p))

-- ---- two numbers that may be added

pub may-add : (w : Width) (B : ℕ) (l : List ℤ) (i j : ℕ) (z : ℤ) → i < length l → j < length l → nat_abs (ints l i) ≤ B → nat_abs (ints l j) ≤ B → B + B + 1 ≤ 2 ^ hbits w → SFits w (get_or l i z +ℤ get_or l j z)
unfolding ints
may-add w B l i j z p r hx hy h = rw (get_or_default l i z (pos 0) p, get_or_default l j z (pos 0) r) (fits-abs w _ (omega (arith, abs-add (get_or l i (pos 0)) (get_or l j (pos 0)))))

-- ---- three products

module _ {m : ℕ} {o o₁ : List ℤ} (s₁ : Stored (pos 0) o 0 m (λ k. ints o (0 + k) +ℤ ints o (m + m + k)) o₁) where
  added-low : (k : ℕ) → k < m → ints o₁ k ≡ ints o k +ℤ ints o (m + m + k)
  added-low k p =
      let e : 0 + k ≡ k = omega arith in
      ints-is o₁ k ∙ front_at s₁ k p ∙ ap (λ (i : ℕ). ints o i +ℤ ints o (m + m + k)) e

  kept_high : (k : ℕ) → m ≤ k → ints o₁ k ≡ ints o k
  unfolding ints
  kept_high k p = s₁.above k (omega arith)

  pub added-small : ((k : ℕ) → k < m + m + m → nat_abs (ints o k) ≤ 2 ^ 60) → (k : ℕ) → k < m + m + m → nat_abs (ints o₁ k) ≤ 2 ^ 61
  added-small h k p = go (dec_lt k m)
    where
      go : Dec (k < m) → nat_abs (ints o₁ k) ≤ 2 ^ 61
      go (yes l) = rw (added-low k l) (omega (arith, abs-add (ints o k) (ints o (m + m + k)), h k p, h (m + m + k) (omega arith)))
      go (no l) = rw (kept_high k (omega arith)) (omega (arith, h k p))

  pub joined : {o₂ : List ℤ} → Stored (pos 0) o₁ m m (λ k. ints o₁ (m + k) +ℤ ints o₁ (m + m + k)) o₂ → Joined m o o₂
  unfolding ints
  joined {o₂} s₂ =
      record {
        low = λ k p. s₂.below k p ∙ added-low k p;
        high = λ k p. s₂.inside k p ∙ ap₂ (λ (x y : ℤ). x +ℤ y) (kept_high (m + k) (omega arith)) (kept_high (m + m + k) (omega arith));
      }

pub made-ext :
    {q m : ℕ} {w v s t : ℕ → ℤ} {o : List ℤ} → Made q m w s o → ((i : ℕ) → i < m + m → w i ≅⟨ q ⟩ v i) → ((j : ℕ) → j < m → s j ≡ t j) → Made q m v t o
made-ext {q} {m} {w} {v} {s} {t} x hw hs =
    record { at = λ k p. x.at k p ⨾ slide-≅ m w v s t k p (λ i g. hw i (omega arith)) hs; size = x.size }

module _ {q m : ℕ} (w s : ℕ → ℤ) {a b c : List ℤ} (o : List ℤ)
    (low : Made q m (λ i. w i -ℤ w (m + i)) s a)
    (high : Made q m (λ i. w (m + m + i) -ℤ w (m + i)) (λ j. s (m + j)) b)
    (middle : Made q m (λ i. w (m + i)) (λ j. s j +ℤ s (m + j)) c)
    (at_a : (k : ℕ) → k < m → ints o k ≡ ints a k)
    (at_b : (k : ℕ) → k < m → ints o (m + k) ≡ ints b k)
    (at_c : (k : ℕ) → k < m → ints o (m + m + k) ≡ ints c k) where
  -- so none is too large to be added
  pub three-small : m ≤ 1024 → (k : ℕ) → k < m + m + m → nat_abs (ints o k) ≤ 2 ^ 60
  three-small f k p = go (dec_lt k m) (dec_lt k (m + m))
    where
      go : Dec (k < m) → Dec (k < m + m) → nat_abs (ints o k) ≤ 2 ^ 60
      go (yes x) y = rw (at_a k x) (omega (arith, low.size k x))
      go (no x) (yes y) =
          let e : m + (k - m) ≡ k = omega arith in
          let l : nat_abs (ints o k) ≤ m * 2 ^ 47 = rw e at (rw (sym (at_b (k - m) (omega arith))) at (high.size (k - m) (omega arith))) in
          omega (arith, l)
      go (no x) (no y) =
          let e : m + m + (k - (m + m)) ≡ k = omega arith in
          let l : nat_abs (ints o k) ≤ m * 2 ^ 47 = rw e at (rw (sym (at_c (k - (m + m)) (omega arith))) at (middle.size (k - (m + m)) (omega arith))) in
          omega (arith, l)

  pub level-made : {o' : List ℤ} → Joined m o o' → Made q (m + m) w s o'
  level-made {o'} j = record { at = λ k p. sum-at k p (dec_lt k m); size = λ k p. small k p (dec_lt k m) }
    where
      lower-at : (k : ℕ) → k < m → ints o' k ≡ ints a k +ℤ ints c k
      lower-at k p = j.low k p ∙ ap₂ (λ (x y : ℤ). x +ℤ y) (at_a k p) (at_c k p)

      upper-at : (k : ℕ) → k < m → ints o' (m + k) ≡ ints b k +ℤ ints c k
      upper-at k p = j.high k p ∙ ap₂ (λ (x y : ℤ). x +ℤ y) (at_b k p) (at_c k p)

      upper_is : (k : ℕ) → k < m → ints o' (m + k) ≅⟨ q ⟩ slide (m + m) w s (m + k)
      upper_is k p = eq-≅ (upper-at k p) ⨾ add-≅ (high.at k p) (middle.at k p) ⨾ eq-≅ (sym (three-high m w s k))

      upper-small : (k : ℕ) → k < m → nat_abs (ints o' (m + k)) ≤ (m + m) * 2 ^ 47
      upper-small k p = rw (upper-at k p) (omega (arith, abs-add (ints b k) (ints c k), high.size k p, middle.size k p))

      sum-at : (k : ℕ) → k < m + m → Dec (k < m) → ints o' k ≅⟨ q ⟩ slide (m + m) w s k
      sum-at k p (yes l) = eq-≅ (lower-at k l) ⨾ add-≅ (low.at k l) (middle.at k l) ⨾ eq-≅ (sym (three-low m w s k))
      sum-at k p (no l) =
          let e : m + (k - m) ≡ k = omega arith in
          rw e at (upper_is (k - m) (omega arith))

      small : (k : ℕ) → k < m + m → Dec (k < m) → nat_abs (ints o' k) ≤ (m + m) * 2 ^ 47
      small k p (yes l) = rw (lower-at k l) (omega (arith, abs-add (ints a k) (ints c k), low.size k l, middle.size k l))
      small k p (no l) =
          let e : m + (k - m) ≡ k = omega arith in
          rw e at (upper-small (k - m) (omega arith))

-- ---- what the three products are lent, where d₀ has a window of 4 m numbers and t₀ has 2 m secrets

module _ {q : ℕ} (m : ℕ) {d₀ : List ℕ} {t₀ : List ℤ} (r : Ready q (m + m) d₀ t₀) where
  ready : (d : List ℕ) (t : List ℤ) → ((i : ℕ) → i < m + m → get_or d i 0 < q) → Few m (ints t) → Ready q m d t
  ready d t b f = record { some = r.some; modulus = r.modulus; few = omega (arith, r.few); below = b; secrets = f }

  -- differences of numbers, behind the window
  module _ {d d' : List ℕ} (x y : ℕ) (s : Stored 0 d (m + m + (m + m)) (m + m) (λ k. residue q (nums d (x + k) -ℤ nums d (y + k))) d') where
    minus-at : (i : ℕ) → i < m + m → get_or (part d' (m + m + (m + m))) i 0 ≡ residue q (nums d (x + i) -ℤ nums d (y + i))
    minus-at i p = part-entry 0 (m + m + (m + m)) d' i ∙ s.inside i p

    minus-below : (i : ℕ) → i < m + m → get_or (part d' (m + m + (m + m))) i 0 < q
    minus-below i p = rw (minus-at i p) (residue-lt q _ r.some)

    minus-≅ : (i : ℕ) → i < m + m → nums (part d' (m + m + (m + m))) i ≅⟨ q ⟩ nums d (x + i) -ℤ nums d (y + i)
    unfolding nums
    minus-≅ i p = eq-≅ (ap pos (minus-at i p)) ⨾ residue-≅ q _ r.some

  -- the lower half: differences of W0 and W1, and a copy of s0
  module _ {d₁ : List ℕ} {t₁ : List ℤ} (s : Stored 0 d₀ (m + m + (m + m)) (m + m) (λ k. residue q (nums d₀ (0 + k) -ℤ nums d₀ (m + k))) d₁) (c : Stored (pos 0) t₀ (m + m) m (ints t₀) t₁) where
    low-secret : (j : ℕ) → j < m → ints (part t₁ (m + m)) j ≡ ints t₀ j
    low-secret j p = ints-is (part t₁ (m + m)) j ∙ part-entry (pos 0) (m + m) t₁ j ∙ c.inside j p

    pub low-ready : Ready q m (part d₁ (m + m + (m + m))) (part t₁ (m + m))
    low-ready = ready (part d₁ (m + m + (m + m))) (part t₁ (m + m)) (minus-below 0 m s) (few-ext (few-low r.secrets) low-secret)

    pub low-made : {o : List ℤ} → Made q m (nums (part d₁ (m + m + (m + m)))) (ints (part t₁ (m + m))) o → Made q m (λ i. nums d₀ i -ℤ nums d₀ (m + i)) (ints t₀) o
    low-made x =
        made-ext x (λ i p. let e : 0 + i ≡ i = omega arith in minus-≅ 0 m s i p ⨾ eq-≅ (ap (λ (k : ℕ). nums d₀ k -ℤ nums d₀ (m + i)) e)) low-secret

  -- the upper half: differences of W2 and W1, and s1, behind the sums of s0 and s1
  module _ {d₂ d₃ : List ℕ} {t₂ t₃ : List ℤ} (same : (i : ℕ) → i < (m + m + (m + m)) → get_or d₂ i 0 ≡ get_or d₀ i 0) (same-t : (j : ℕ) → j < (m + m) → get_or t₂ j (pos 0) ≡ get_or t₀ j (pos 0))
      (s : Stored 0 d₂ (m + m + (m + m)) (m + m) (λ k. residue q (nums d₂ (m + m + k) -ℤ nums d₂ (m + k))) d₃) (a : Stored (pos 0) t₂ 0 m (λ j. ints t₂ (0 + j) +ℤ ints t₂ (m + j)) t₃) where
    same-n : (i : ℕ) → i < (m + m + (m + m)) → nums d₂ i ≡ nums d₀ i
    unfolding nums
    same-n i p = ap pos (same i p)

    same_s : (j : ℕ) → j < (m + m) → ints t₂ j ≡ ints t₀ j
    unfolding ints
    same_s j p = same-t j p

    high-secret : (j : ℕ) → j < m → ints (part t₃ m) j ≡ ints t₀ (m + j)
    unfolding ints
    high-secret j p = part-entry (pos 0) m t₃ j ∙ a.above (m + j) (omega arith) ∙ same-t (m + j) (omega arith)

    pub high-ready : Ready q m (part d₃ (m + m + (m + m))) (part t₃ m)
    high-ready = ready (part d₃ (m + m + (m + m))) (part t₃ m) (minus-below (m + m) m s) (few-ext (few-high r.secrets) high-secret)

    pub high-made : {o : List ℤ} → Made q m (nums (part d₃ (m + m + (m + m)))) (ints (part t₃ m)) o → Made q m (λ i. nums d₀ (m + m + i) -ℤ nums d₀ (m + i)) (λ j. ints t₀ (m + j)) o
    high-made x =
        made-ext x (λ i p. minus-≅ (m + m) m s i p ⨾ eq-≅ (ap₂ (λ (u v : ℤ). u -ℤ v) (same-n (m + m + i) (omega arith)) (same-n (m + i) (omega arith)))) high-secret

    -- the middle: W1, and the sums
    module _ (d₄ : List ℕ) (t₄ : List ℤ) (kept : (i : ℕ) → i < (m + m + (m + m)) → get_or d₄ i 0 ≡ get_or d₃ i 0) (kept-t : (j : ℕ) → j < m → get_or t₄ j (pos 0) ≡ get_or t₃ j (pos 0)) where
      middle-at : (i : ℕ) → i < m + m → get_or (part d₄ m) i 0 ≡ get_or d₀ (m + i) 0
      middle-at i p = part-entry 0 m d₄ i ∙ kept (m + i) (omega arith) ∙ s.below (m + i) (omega arith) ∙ same (m + i) (omega arith)

      middle-n : (i : ℕ) → i < m + m → nums (part d₄ m) i ≡ nums d₀ (m + i)
      unfolding nums
      middle-n i p = ap pos (middle-at i p)

      middle-secret : (j : ℕ) → j < m → ints t₄ j ≡ ints t₀ j +ℤ ints t₀ (m + j)
      middle-secret j p =
          let e : 0 + j ≡ j = omega arith in
          ints-is t₄ j
          ∙ kept-t j p
          ∙ front_at a j p
          ∙ ap₂ (λ (u v : ℤ). u +ℤ v) (ap (ints t₂) e ∙ same_s j (omega arith)) (same_s (m + j) (omega arith))

      pub middle-ready : Ready q m (part d₄ m) t₄
      middle-ready =
          ready (part d₄ m) t₄ (λ i p. rw (middle-at i p) (r.below (m + i) (omega arith))) (few-ext (few-middle r.secrets) middle-secret)

      pub middle-made : {o : List ℤ} → Made q m (nums (part d₄ m)) (ints t₄) o → Made q m (λ i. nums d₀ (m + i)) (λ j. ints t₀ j +ℤ ints t₀ (m + j)) o
      middle-made x = made-ext x (λ i p. eq-≅ (middle-n i p)) middle-secret

pub ready_at : {q n m : ℕ} {d : List ℕ} {t : List ℤ} → n ≡ m → Ready q n d t → Ready q m d t
ready_at {q} {d = d} {t = t} e r = subst (λ (k : ℕ). Ready q k d t) e r

pub made_at : {q n m : ℕ} {w s : ℕ → ℤ} {o : List ℤ} → m ≡ n → Made q m w s o → Made q n w s o
made_at {q} {w = w} {s = s} {o = o} e r = subst (λ (k : ℕ). Made q k w s o) e r

-- where there are many secrets, none is large
pub few-size : {n : ℕ} {s : ℕ → ℤ} → Few n s → 4 ≤ n → (j : ℕ) → j < n → nat_abs (s j) ≤ 16383
few-size {n} f l j p =
    let k : 4 * f.size ≤ n * f.size = mul-le-mul l (le_refl f.size) in
    omega (arith, f.within j p, f.room, k)
