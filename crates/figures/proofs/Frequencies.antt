-- How often each noise value comes out: what `specs/Frequencies.antt` states, Frodo's here and NewHope's in `Pairs.antt`.
--   at-most-edge    at most k thresholds are at most t exactly if t is below threshold k
--   size_none, size-some   how many t below B have a given size: the first threshold, and a gap
--   any-table       for any ascending thresholds
--   table-one       for D1 to D4
--   frequencies     all of it
use Rattle.lists.proofs.Kit.{refl, ◌∙◌, sym, ap, ap₂, Bool, true, false, cond, List, [], ℕ, zero, suc}
use Rattle.std.proofs.Common.{◌≡◌, ◌∷◌, ◌+◌, ◌*◌, ◌-◌, ◌/◌, ◌%◌, ◌^◌, ◌<◌, ◌≤◌}
use Rattle.lists.proofs.Kit.{add-one, arith, dec_le, mod-eq_of_lt, pow-suc, leb-true, lt-ltb, le-ltb, le-leb, lt-leb, eq-eqb, ne_eqb, leb, ltb, eqb}
use Rattle.lists.proofs.Kit.{eqb·zero-suc, eqb·suc-zero, eqb·suc-suc, ℤ, pos, negsuc, neg_ℤ, get_or}
use lib.Dec.{leb-suc-zero, leb-suc-suc}
use Rattle.numbers.specs.Sum.{sum, sum_ℕ}
use Rattle.numbers.proofs.Sums.{natural, sum-ext, sum-add, sum-none, sum-double}
use Rattle.lists.proofs.Table.{both_true}
use Rattle.noise.specs.Noise.{at_most, threshold_of_lem}
use Rattle.figures.specs.Frequencies.{how_often, same, frequency, rises, gaps, AnyTable, TableOne, Frequencies}
use Rattle.figures.proofs.Pairs.{binomial}

-- ---- ascending thresholds

module _ (B x : ℕ) (ts : List ℕ) (r : rises B (x ∷ ts) ≡ true) where
  first-up : x ≤ get_or ts 0 B
  first-up = leb-true x (get_or ts 0 B) (both_true (leb x (get_or ts 0 B)) (rises B ts) r).0

  rest-rises : rises B ts ≡ true
  rest-rises = (both_true (leb x (get_or ts 0 B)) (rises B ts) r).1

-- what is below the first threshold is below each
above : (B x t : ℕ) (ts : List ℕ) → rises B (x ∷ ts) ≡ true → t < x → (k : ℕ) → t < get_or (x ∷ ts) k B
above B x t ts r h zero = h
above B x t [] r h (suc k) = omega (arith, first-up B x [] r)
above B x t (y ∷ ts) r h (suc k) = above B y t ts (rest-rises B x (y ∷ ts) r) (omega (arith, first-up B x (y ∷ ts) r)) k

-- and the last is at most B
edge-le : (B : ℕ) (ts : List ℕ) → rises B ts ≡ true → (k : ℕ) → get_or ts k B ≤ B
edge-le B [] r k = omega arith
edge-le B (x ∷ []) r zero = first-up B x [] r
edge-le B (x ∷ y ∷ ts) r zero = omega (arith, first-up B x (y ∷ ts) r, edge-le B (y ∷ ts) (rest-rises B x (y ∷ ts) r) zero)
edge-le B (x ∷ ts) r (suc k) = edge-le B ts (rest-rises B x ts r) k

-- one threshold more, from what holds of the others
edge_more :
    (B x t : ℕ) (ts : List ℕ) → rises B (x ∷ ts) ≡ true → ((k : ℕ) → leb (at_most ts t) k ≡ ltb t (get_or ts k B)) → Dec (x ≤ t) →
    (k : ℕ) → leb (cond (leb x t) (suc (at_most ts t)) (at_most ts t)) k ≡ ltb t (get_or (x ∷ ts) k B)
edge_more B x t ts r f (yes p) zero = ap (λ (b : Bool). leb (cond b (suc (at_most ts t)) (at_most ts t)) 0) (le-leb x t p) ∙ leb-suc-zero (at_most ts t) ∙ sym (le-ltb t x p)
edge_more B x t ts r f (yes p) (suc k) = ap (λ (b : Bool). leb (cond b (suc (at_most ts t)) (at_most ts t)) (suc k)) (le-leb x t p) ∙ leb-suc-suc (at_most ts t) k ∙ f k
edge_more B x t ts r f (no p) k =
    ap (λ (b : Bool). leb (cond b (suc (at_most ts t)) (at_most ts t)) k) (lt-leb x t (omega arith))
    ∙ f k
    ∙ lt-ltb t (get_or ts k B) (above B x t ts r (omega arith) (suc k))
    ∙ sym (lt-ltb t (get_or (x ∷ ts) k B) (above B x t ts r (omega arith) k))

pub at-most-edge : (B t : ℕ) (ts : List ℕ) → rises B ts ≡ true → t < B → (k : ℕ) → leb (at_most ts t) k ≡ ltb t (get_or ts k B)
unfolding at_most
at-most-edge B t [] r h k = le-leb 0 k (omega arith) ∙ sym (lt-ltb t B h)
at-most-edge B t (x ∷ ts) r h k = edge_more B x t ts r (λ j. at-most-edge B t ts (rest-rises B x ts r) h j) (dec_le x t) k

-- ---- counting

-- the numbers below e, of those below n
below_all : (n e : ℕ) → n ≤ e → sum_ℕ n (λ t. cond (ltb t e) 1 0) ≡ n
unfolding sum
below_all zero e h = refl
below_all (suc n) e h =
    let i : sum_ℕ n (λ t. cond (ltb t e) 1 0) ≡ n = below_all n e (omega arith) in
    let b : ◌≡◌ {A = ℕ} (cond (ltb n e) 1 0) 1 = ap (λ (b : Bool). cond b 1 0) (lt-ltb n e (omega arith)) in
    omega arith

below_last : (n e : ℕ) → (e ≤ n → sum_ℕ n (λ t. cond (ltb t e) 1 0) ≡ e) → Dec (e ≤ n) → e ≤ suc n → sum_ℕ n (λ t. cond (ltb t e) 1 0) + cond (ltb n e) 1 0 ≡ e
below_last n e f (yes p) h =
    let i : sum_ℕ n (λ t. cond (ltb t e) 1 0) ≡ e = f p in
    let b : ◌≡◌ {A = ℕ} (cond (ltb n e) 1 0) 0 = ap (λ (b : Bool). cond b 1 0) (le-ltb n e p) in
    omega arith
below_last n e f (no p) h =
    let i : sum_ℕ n (λ t. cond (ltb t e) 1 0) ≡ n = below_all n e (omega arith) in
    let b : ◌≡◌ {A = ℕ} (cond (ltb n e) 1 0) 1 = ap (λ (b : Bool). cond b 1 0) (lt-ltb n e (omega arith)) in
    omega arith

below-count : (n e : ℕ) → e ≤ n → sum_ℕ n (λ t. cond (ltb t e) 1 0) ≡ e
unfolding sum
below-count zero e h = omega arith
below-count (suc n) e h = below_last n e (λ l. below-count n e l) (dec_le e n) h

-- a = 0 or a <= 0; and a = k + 1 or a <= k, or a <= k + 1
none_is : (a : ℕ) → eqb a 0 ≡ leb a 0
none_is zero = refl
none_is (suc a) = eqb·suc-zero a ∙ sym (leb-suc-zero a)

split : (a k : ℕ) → ◌≡◌ {A = ℕ} (cond (eqb a (suc k)) 1 0 + cond (leb a k) 1 0) (cond (leb a (suc k)) 1 0)
split a k = go (dec_le a k) (dec_le a (suc k))
  where
    go : Dec (a ≤ k) → Dec (a ≤ suc k) → ◌≡◌ {A = ℕ} (cond (eqb a (suc k)) 1 0 + cond (leb a k) 1 0) (cond (leb a (suc k)) 1 0)
    go (yes p) d = rw (ne_eqb a (suc k) (λ e. omega arith), le-leb a k p, le-leb a (suc k) (omega arith))
    go (no p) (yes q) = rw (eq-eqb a (suc k) (omega arith), lt-leb a k (omega arith), le-leb a (suc k) q)
    go (no p) (no q) = rw (ne_eqb a (suc k) (λ e. omega arith), lt-leb a k (omega arith), lt-leb a (suc k) (omega arith))

-- how many numbers below B have a given size
unfoldable pub sized : ℕ → List ℕ → ℕ → ℕ
sized B ts k = sum_ℕ B (λ t. cond (eqb (at_most ts t) k) 1 0)

module _ (B : ℕ) (ts : List ℕ) (r : rises B ts ≡ true) where
  up_to : (k : ℕ) → sum_ℕ B (λ t. cond (leb (at_most ts t) k) 1 0) ≡ get_or ts k B
  up_to k =
      sum-ext natural B _ _ (λ t h. ap (λ (b : Bool). cond b 1 0) (at-most-edge B t ts r h k))
      ∙ below-count B (get_or ts k B) (edge-le B ts r k)

  pub size_none : sized B ts 0 ≡ get_or ts 0 B
  unfolding sized
  size_none = sum-ext natural B _ _ (λ t h. ap (λ (b : Bool). cond b 1 0) (none_is (at_most ts t))) ∙ up_to 0

  pub size-some : (k : ℕ) → sized B ts (suc k) + get_or ts k B ≡ get_or ts (suc k) B
  unfolding sized
  size-some k =
      ap (λ (n : ℕ). sized B ts (suc k) + n) (sym (up_to k))
      ∙ sym (sum-add natural B (λ t. cond (eqb (at_most ts t) (suc k)) 1 0) (λ t. cond (leb (at_most ts t) k) 1 0))
      ∙ sum-ext natural B _ _ (λ t h. split (at_most ts t) k)
      ∙ up_to (suc k)

gap_at : (B : ℕ) (ts : List ℕ) (k : ℕ) → get_or (gaps B ts) k 0 ≡ get_or ts (suc k) B - get_or ts k B
gap_at B [] k = omega arith
gap_at B (x ∷ ts) zero = refl
gap_at B (x ∷ ts) (suc k) = gap_at B ts k

-- ---- words: the even ones are plus, the odd ones minus

module _ (ts : List ℕ) (m : ℕ) where
  plus-word : (j : ℕ) → j < 2 ^ m → threshold_of_lem ts m (2 * j) ≡ pos (at_most ts j)
  unfolding threshold_of_lem
  plus-word j h =
      let e : 2 * j % 2 ≡ 0 = omega arith in
      let d : 2 * j / 2 ≡ j = omega arith in
      rw (e, d, mod-eq_of_lt h)

  minus-word : (j : ℕ) → j < 2 ^ m → threshold_of_lem ts m (2 * j + 1) ≡ neg_ℤ (pos (at_most ts j))
  unfolding threshold_of_lem
  minus-word j h =
      let e : (2 * j + 1) % 2 ≡ 1 = omega arith in
      let d : (2 * j + 1) / 2 ≡ j = omega arith in
      rw (e, d, mod-eq_of_lt h)

  words : 2 ^ (m + 1) ≡ 2 * 2 ^ m
  words = ap (λ (k : ℕ). 2 ^ k) (add-one m) ∙ pow-suc 2 m ∙ omega arith

  halves : (z : ℤ)
      → frequency ts m z ≡ sum_ℕ (2 ^ m) (λ j. cond (same (pos (at_most ts j)) z) 1 0) + sum_ℕ (2 ^ m) (λ j. cond (same (neg_ℤ (pos (at_most ts j))) z) 1 0)
  unfolding frequency how_often
  halves z =
      ap (λ (n : ℕ). sum_ℕ n (λ w. cond (same (threshold_of_lem ts m w) z) 1 0)) words
      ∙ sum-double natural (2 ^ m) (λ w. cond (same (threshold_of_lem ts m w) z) 1 0)
      ∙ ap₂ (λ (a b : ℕ). a + b)
      (sum-ext natural (2 ^ m) _ _ (λ j h. ap (λ (y : ℤ). cond (same y z) 1 0) (plus-word j h)))
      (sum-ext natural (2 ^ m) _ _ (λ j h. ap (λ (y : ℤ). cond (same y z) 1 0) (minus-word j h)))

-- when -a is 0, k + 1, or -(k + 1)
neg-nought : (a : ℕ) → same (neg_ℤ (pos a)) (pos 0) ≡ eqb a 0
neg-nought zero = refl
neg-nought (suc a) = sym (eqb·suc-zero a)

neg-plus : (a k : ℕ) → same (neg_ℤ (pos a)) (pos (suc k)) ≡ false
neg-plus zero k = eqb·zero-suc k
neg-plus (suc a) k = refl

neg-minus : (a k : ℕ) → same (neg_ℤ (pos a)) (negsuc k) ≡ eqb a (suc k)
neg-minus zero k = sym (eqb·zero-suc k)
neg-minus (suc a) k = sym (eqb·suc-suc a k)

any-table : AnyTable
unfolding sized
any-table ts m r =
    let B = 2 ^ m in
    let some : (k : ℕ) → sized B ts (suc k) ≡ get_or (gaps B ts) k 0 = λ k. omega (arith, size-some B ts r k, gap_at B ts k) in
    record {
      nought =
          halves ts m (pos 0)
          ∙ ap₂ (λ (a b : ℕ). a + b)
          (size_none B ts r)
          (sum-ext natural B _ _ (λ j h. ap (λ (b : Bool). cond b 1 0) (neg-nought (at_most ts j))) ∙ size_none B ts r)
          ∙ omega arith;
      plus = λ k.
          halves ts m (pos (suc k))
          ∙ ap₂ (λ (a b : ℕ). a + b)
          (some k)
          (sum-none natural B _ (λ j h. ap (λ (b : Bool). cond b 1 0) (neg-plus (at_most ts j) k)))
          ∙ omega arith;
      minus = λ k.
          halves ts m (negsuc k)
          ∙ ap₂ (λ (a b : ℕ). a + b)
          (sum-none natural B _ (λ j h. refl))
          (sum-ext natural B _ _ (λ j h. ap (λ (b : Bool). cond b 1 0) (neg-minus (at_most ts j) k)) ∙ some k)
          ∙ omega arith;
    }

table-one : TableOne
table-one = (any-table _ 7 refl, any-table _ 11 refl, any-table _ 11 refl, any-table _ 15 refl)

pub frequencies : Frequencies
frequencies = record { any-table = any-table; table-one = table-one; newhope = binomial 16 }
