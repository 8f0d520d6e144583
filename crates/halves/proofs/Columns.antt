-- The product of two factors of 32 numbers, two rows at a time.
--   padded             the second factor as it is laid
--   cells-none         no row yet
--   cell-more          two products more
--   Doing w i k        k of the 33 columns that rows i and i + 1 reach have them
--   doing-none, doing-next, doing-all   the first column, one more, and all
--   doing-small        a column has room for two products more
--   leaf-law           what the steps of a leaf come to
use Rattle.lists.proofs.Kit.{◌≡◌, ◌∙◌, sym, ap, subst, List, Bool, cond, ℕ, suc, ◌+◌, ◌*◌, ◌-◌, ◌/◌, ◌%◌, ◌^◌, ◌<◌, ◌≤◌, arith, mul-zero, zero-mul}
use Rattle.lists.proofs.Kit.{zero-add, div-add-mod, mod-lt, dec_lt, lt-ltb, le-ltb, ltb, length, get_or, set, length-set, get_or-set_same, get_or-set_other}
use Rattle.numbers.specs.Sum.{sum, sum_ℕ}
use Rattle.numbers.proofs.{Sums.natural, Sums.sum-ext, Sums.sum-split, Sums.sum-none, Congruence.multiples-≅, Congruence.same-mod}
use Rattle.lists.specs.Ranges.{Below, Stored}
use Rattle.halves.specs.{Halves.q, Steps.full, Steps.cut, Steps.from, Steps.times, Steps.term, Steps.Cell, Steps.Rows, Steps.Padded, Steps.Product}
use Rattle.halves.proofs.{Full.cut_in, Full.cut_out, Moves.same}

-- ---- what a row gives

term-before : (w : List ℕ) (m u : ℕ) → m < u → term w m u ≡ 0
unfolding term
term-before w m u h = ap (λ (b : Bool). from w 0 u * cond b 0 (cut 32 (from w 32) (m - u))) (lt-ltb m u h) ∙ mul-zero (from w 0 u)

term_in : (w : List ℕ) (m u : ℕ) → u ≤ m → term w m u ≡ from w 0 u * cut 32 (from w 32) (m - u)
unfolding term
term_in w m u h = ap (λ (b : Bool). from w 0 u * cond b 0 (cut 32 (from w 32) (m - u))) (le-ltb m u h)

term-past : (w : List ℕ) (m u : ℕ) → u + 32 ≤ m → term w m u ≡ 0
term-past w m u h =
    term_in w m u (omega arith)
    ∙ ap (λ (x : ℕ). from w 0 u * x) (cut_out 32 (from w 32) (m - u) (omega arith))
    ∙ mul-zero (from w 0 u)

two-more : (w : List ℕ) (m i : ℕ) → sum_ℕ (i + 2) (term w m) ≡ sum_ℕ i (term w m) + term w m i + term w m (i + 1)
unfolding sum
two-more w m i =
    let e : i + 2 ≡ suc (suc i) = omega arith in
    let f : suc i ≡ i + 1 = omega arith in
    ap (λ (n : ℕ). sum_ℕ n (term w m)) e ∙ ap (λ (n : ℕ). sum_ℕ i (term w m) + term w m i + term w m n) f

-- ---- a column

cell-none : (i s s' l h : ℕ) → s' ≡ s → Cell s i l h → Cell s' (i + 2) l h
cell-none i s s' l h e c = record { made = c.made ∙ sym e; low = omega (arith, c.low); high = omega (arith, c.high) }

cell-more :
    {s s' i l h p r lp lr hp hr : ℕ} → Cell s i l h → p < 18446744073709551616 → r < 18446744073709551616 →
    lp ≡ p % 8589934592 → lr ≡ r % 8589934592 → hp ≡ p / 8589934592 → hr ≡ r / 8589934592 → s' ≡ s + p + r →
    Cell s' (i + 2) (l + (lp + lr)) (h + (hp + hr))
cell-more {p = p} {r} c rp rr a b d e f =
    let x = div-add-mod p 8589934592 in
    let y = div-add-mod r 8589934592 in
    let m : p % 8589934592 < 8589934592 = mod-lt p (omega arith) in
    let n : r % 8589934592 < 8589934592 = mod-lt r (omega arith) in
    record {
      made = omega (arith, c.made, x, y, a, b, d, e, f);
      low = omega (arith, c.low, m, n, a, b);
      high = omega (arith, c.high, x, y, rp, rr, d, e);
    }

pub cells-none : {w lows highs : List ℕ} → length lows ≡ 64 → length highs ≡ 64 → ((k : ℕ) → get_or lows k 0 ≡ 0) → ((k : ℕ) → get_or highs k 0 ≡ 0) → Rows w 0 lows highs
unfolding sum
cells-none a b c d = record {
  lows-long = a;
  highs-long = b;
  at = λ m p. record { made = omega (arith, c m, d m); low = omega (arith, c m); high = omega (arith, d m) };
}

-- ---- two rows

pub record Doing (w : List ℕ) (i k : ℕ) (lows highs : List ℕ) : Type 0 where
  pub lows-long : length lows ≡ 64
  pub highs-long : length highs ≡ 64
  pub done : (m : ℕ) → m < i + k → m < 64 → Cell (sum_ℕ (i + 2) (term w m)) (i + 2) (get_or lows m 0) (get_or highs m 0)
  pub todo : (m : ℕ) → i + k ≤ m → m < 64 → Cell (sum_ℕ i (term w m)) i (get_or lows m 0) (get_or highs m 0)

pub doing-none : {w : List ℕ} {i : ℕ} {lows highs : List ℕ} → Rows w i lows highs → Doing w i 0 lows highs
doing-none {w} {i} r = record {
  lows-long = r.lows-long;
  highs-long = r.highs-long;
  done = λ m p l. cell-none i _ _ _ _ (omega (arith, two-more w m i, term-before w m i (omega arith), term-before w m (i + 1) (omega arith))) (r.at m l);
  todo = λ m p l. r.at m l;
}

pub doing-all : {w : List ℕ} {i k : ℕ} {lows highs : List ℕ} → Doing w i k lows highs → k ≡ 33 → Rows w (i + 2) lows highs
doing-all {w} {i} {k} {lows} {highs} d e = record {
  lows-long = d.lows-long;
  highs-long = d.highs-long;
  at = λ m l. go m l (dec_lt m (i + k));
}
  where
    go : (m : ℕ) → m < 64 → Dec (m < i + k) → Cell (sum_ℕ (i + 2) (term w m)) (i + 2) (get_or lows m 0) (get_or highs m 0)
    go m l (yes p) = d.done m p l
    go m l (no p) =
        cell-none i _ _ _ _ (omega (arith, two-more w m i, term-past w m i (omega arith), term-past w m (i + 1) (omega arith))) (d.todo m (omega arith) l)

-- the two numbers of the second factor that meet in a column
meet : {w b : List ℕ} → Padded w b → (i k : ℕ) → k < 33 → from w 0 (i + 1) * get_or b k 0 ≡ term w (i + k) (i + 1)
meet {w} {b} p i k l = go (dec_lt k 1)
  where
    go : Dec (k < 1) → from w 0 (i + 1) * get_or b k 0 ≡ term w (i + k) (i + 1)
    go (yes z) =
        let e : k ≡ 0 = omega arith in
        ap (λ (n : ℕ). from w 0 (i + 1) * get_or b n 0) e
        ∙ ap (λ (n : ℕ). from w 0 (i + 1) * n) p.first
        ∙ mul-zero (from w 0 (i + 1))
        ∙ sym (term-before w (i + k) (i + 1) (omega arith))
    go (no z) =
        let e : k ≡ k - 1 + 1 = omega arith in
        let f : k - 1 ≡ i + k - (i + 1) = omega arith in
        ap (λ (n : ℕ). from w 0 (i + 1) * get_or b n 0) e
        ∙ ap (λ (n : ℕ). from w 0 (i + 1) * n) (p.at (k - 1) (omega arith) ∙ ap (cut 32 (from w 32)) f)
        ∙ sym (term_in w (i + k) (i + 1) (omega arith))

meets : {w b : List ℕ} → Padded w b → (i k : ℕ) → k < 33 → from w 0 i * get_or b (k + 1) 0 ≡ term w (i + k) i
meets {w} {b} p i k l =
    let f : k ≡ i + k - i = omega arith in
    ap (λ (n : ℕ). from w 0 i * n) (p.at k l ∙ ap (cut 32 (from w 32)) f) ∙ sym (term_in w (i + k) i (omega arith))

module _
    {w b : List ℕ} {i k : ℕ} {lows highs : List ℕ} {p r lp lr hp hr : ℕ} (pad : Padded w b) (d : Doing w i k lows highs) (l : k < 33) (n : i + 2 ≤ 32)
    (rp : p < 18446744073709551616) (rr : r < 18446744073709551616) (ep : p ≡ get_or w i 0 * get_or b (k + 1) 0) (er : r ≡ get_or w (i + 1) 0 * get_or b k 0)
    (a : lp ≡ p % 8589934592) (c : lr ≡ r % 8589934592) (e : hp ≡ p / 8589934592) (f : hr ≡ r / 8589934592) where
  abbrev lows' : List ℕ
  lows' = set lows (i + k) (get_or lows (i + k) 0 + (lp + lr))

  abbrev highs' : List ℕ
  highs' = set highs (i + k) (get_or highs (i + k) 0 + (hp + hr))

  other : (m : ℕ) → (m ≡ i + k → ⊥) → get_or lows' m 0 ≡ get_or lows m 0
  other m ne = get_or-set_other lows (i + k) m _ 0 ne

  other' : (m : ℕ) → (m ≡ i + k → ⊥) → get_or highs' m 0 ≡ get_or highs m 0
  other' m ne = get_or-set_other highs (i + k) m _ 0 ne

  here : Cell (sum_ℕ (i + 2) (term w (i + k))) (i + 2) (get_or lows' (i + k) 0) (get_or highs' (i + k) 0)
  here =
      let x : get_or w i 0 ≡ from w 0 i = same w (sym (zero-add i)) in
      let y : get_or w (i + 1) 0 ≡ from w 0 (i + 1) = same w (sym (zero-add (i + 1))) in
      let u : p ≡ term w (i + k) i = ep ∙ ap (λ (z : ℕ). z * get_or b (k + 1) 0) x ∙ meets pad i k l in
      let v : r ≡ term w (i + k) (i + 1) = er ∙ ap (λ (z : ℕ). z * get_or b k 0) y ∙ meet pad i k l in
      rw (get_or-set_same lows (i + k) (get_or lows (i + k) 0 + (lp + lr)) 0 (omega (arith, d.lows-long)))
      (rw (get_or-set_same highs (i + k) (get_or highs (i + k) 0 + (hp + hr)) 0 (omega (arith, d.highs-long)))
      (cell-more (d.todo (i + k) (omega arith) (omega arith)) rp rr a c e f (omega (arith, two-more w (i + k) i, u, v))))

  after : (m : ℕ) → m < 64 → Dec (m < i + k) → m < i + (k + 1) → Cell (sum_ℕ (i + 2) (term w m)) (i + 2) (get_or lows' m 0) (get_or highs' m 0)
  after m o (yes g) h = rw (other m (omega arith)) (rw (other' m (omega arith)) (d.done m g o))
  after m o (no g) h = let z : i + k ≡ m = omega arith in subst (λ (t : ℕ). Cell (sum_ℕ (i + 2) (term w t)) (i + 2) (get_or lows' t 0) (get_or highs' t 0)) z here

  pub doing-next : Doing w i (k + 1) lows' highs'
  doing-next = record {
    lows-long = simp length-set d.lows-long;
    highs-long = simp length-set d.highs-long;
    done = λ m h o. after m o (dec_lt m (i + k)) h;
    todo = λ m h o. rw (other m (omega arith)) (rw (other' m (omega arith)) (d.todo m (omega arith) o));
  }

pub doing-small : {w : List ℕ} {i k : ℕ} {lows highs : List ℕ} → Doing w i k lows highs → k < 33 → i + 2 ≤ 32 → (get_or lows (i + k) 0 < 2 ^ 40) × (get_or highs (i + k) 0 < 2 ^ 40)
doing-small {i = i} {k} d l n = let c = d.todo (i + k) (omega arith) (omega arith) in (omega (arith, c.low), omega (arith, c.high))

-- ---- all of it

pub padded :
    {w b b' : List ℕ} {n : ℕ} → length b ≡ 34 → ((k : ℕ) → get_or b k 0 ≡ 0) → Stored 0 b 1 n (from w 32) b' → n ≡ 32 → Below 4294967296 b' → Padded w b'
padded {w} {b} {b'} {n} o z s e h = record {
  long = s.long ∙ o;
  at = λ k l. go k l (dec_lt k 32);
  first = s.below 0 (omega arith) ∙ z 0;
  small = h;
}
  where
    go : (k : ℕ) → k < 33 → Dec (k < 32) → get_or b' (k + 1) 0 ≡ cut 32 (from w 32) k
    go k l (yes p) = let f : k + 1 ≡ 1 + k = omega arith in same b' f ∙ s.inside k (omega arith) ∙ sym (cut_in 32 (from w 32) k p)
    go k l (no p) = s.above (k + 1) (omega arith) ∙ z (k + 1) ∙ sym (cut_out 32 (from w 32) k (omega arith))

-- a column, of 32 rows, is a coefficient of the full product: both are the sum of 32 + (m + 1) terms
module _ (w : List ℕ) (m : ℕ) where
  both : ℕ → ℕ
  both u = cut 32 (from w 0) u * cond (ltb m u) 0 (cut 32 (from w 32) (m - u))

  both-term : (u : ℕ) → u < 32 → both u ≡ term w m u
  unfolding both term
  both-term u l = ap (λ (x : ℕ). x * cond (ltb m u) 0 (cut 32 (from w 32) (m - u))) (cut_in 32 (from w 0) u l)

  both_out : (u : ℕ) → 32 ≤ u → both u ≡ 0
  unfolding both
  both_out u l =
      ap (λ (x : ℕ). x * cond (ltb m u) 0 (cut 32 (from w 32) (m - u))) (cut_out 32 (from w 0) u l)
      ∙ zero-mul (cond (ltb m u) 0 (cut 32 (from w 32) (m - u)))

  both-in : (u : ℕ) → u < suc m → both u ≡ cut 32 (from w 0) u * cut 32 (from w 32) (m - u)
  unfolding both
  both-in u l = ap (λ (b : Bool). cut 32 (from w 0) u * cond b 0 (cut 32 (from w 32) (m - u))) (le-ltb m u (omega arith))

  both-past : (u : ℕ) → suc m ≤ u → both u ≡ 0
  unfolding both
  both-past u l = ap (λ (b : Bool). cut 32 (from w 0) u * cond b 0 (cut 32 (from w 32) (m - u))) (lt-ltb m u (omega arith)) ∙ mul-zero (cut 32 (from w 0) u)

  column-full : sum_ℕ 32 (term w m) ≡ full (cut 32 (from w 0)) (cut 32 (from w 32)) m
  unfolding full
  column-full =
      let a = sum-ext natural 32 both (term w m) both-term in
      let b = sum-ext natural (suc m) both (λ u. cut 32 (from w 0) u * cut 32 (from w 32) (m - u)) both-in in
      let c = sum-none natural (suc m) (λ j. both (32 + j)) (λ j p. both_out (32 + j) (omega arith)) in
      let d = sum-none natural 32 (λ j. both (suc m + j)) (λ j p. both-past (suc m + j) (omega arith)) in
      let s = sum-split natural 32 (suc m) both in
      let t = sum-split natural (suc m) 32 both in
      let e : 32 + suc m ≡ suc m + 32 = omega arith in
      let f = ap (λ (n : ℕ). sum_ℕ n both) e in
      sym a ∙ omega (arith, c, d, s, t, f) ∙ b

cell-mod : {s i l h : ℕ} → Cell s i l h → (l + 2 * h) % q ≡ s % q
cell-mod {s} {i} {l} {h} c = same-mod (omega arith) (multiples-≅ q (l + 2 * h) _ (2 * h) 0 (omega (arith, c.made)))

pub leaf-law :
    {w lows highs w' : List ℕ} → Rows w 32 lows highs → Stored 0 w 0 64 (λ (k : ℕ). (get_or lows k 0 + 2 * get_or highs k 0) % q) w' → Product w 32 w'
unfolding times
leaf-law {w} {lows} {highs} {w'} r s = record {
  long = s.long;
  at = λ k p.
      same w' (sym (zero-add k))
      ∙ s.inside k (omega arith)
      ∙ cell-mod (r.at k (omega arith))
      ∙ ap (λ (n : ℕ). n % q) (column-full w k);
}
