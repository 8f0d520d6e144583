-- What a level writes, entry by entry: the first n of each half (`specs/Level.antt`, Butterflies).
--   stored_is                  what the code stores
--   run_more                   after one more of a run
--   crossed-more               the same of a level across, whose rows have entry o of all blocks
--   powers-more                the powers of its blocks, after one more
--   block-≤                    the powers of a row stand within the table
--   product-fits, exponent-≤   the products, and the power that a run reads
--   next-run                   a run ends within its block
use Rattle.lists.proofs.Kit.{◌≡◌, ◌∙◌, sym, ap, ap₂, List, ◌≢◌, ℕ, zero, suc, ◌+◌, ◌-◌, ◌*◌, ◌/◌, ◌%◌, ◌^◌, ◌<◌, ◌≤◌, arith, add_assoc, mod-lt}
use Rattle.lists.proofs.Kit.{mul-le-mul, mul-le-mul_left, mul-le-mul_right, div-mul-le_self, div-add-mod, div-add-mod', div-lt_iff_lt-mul, lt-div-mul-add}
use Rattle.lists.proofs.Kit.{dec_lt, length, get_or, set, length-set, get_or-set_same, get_or-set_other}
use native.Mathlib.Nat.{mul-div-le, mul-div-mul_left, div-eq_of_lt-le}
use Rattle.std.proofs.Common.{below_more}
use Rattle.transform.specs.Level.{tight, powered, low, high, Half, first, second, place, butterfly, stored, entry, factor, beside, Butterflies, Powers}
use Rattle.transform.specs.Level.{Crossed, OneBlock}

-- two stores, one to each half
module _ (dst : List ℕ) (k : ℕ) (f : Half → ℕ) where
  abbrev one : List ℕ
  one = set dst k (f first)

  abbrev two : List ℕ
  two = set one (k + 512) (f second)

  two-length : length two ≡ length dst
  two-length = simp length-set

  other : (i : ℕ) → i ≢ k → i ≢ k + 512 → get_or two i 0 ≡ get_or dst i 0
  other i p₀ p₁ = get_or-set_other one (k + 512) i (f second) 0 p₁ ∙ get_or-set_other dst k i (f first) 0 p₀

  earlier : k < 512 → (c : Half) (j : ℕ) → j < k → get_or two (j + place c) 0 ≡ get_or dst (j + place c) 0
  unfolding place
  earlier lt first j p = other (j + 0) (omega arith) (omega arith)
  earlier lt second j p = other (j + 512) (omega arith) (omega arith)

  new : k < 512 → length dst ≡ 1024 → (c : Half) → get_or two (k + place c) 0 ≡ f c
  unfolding place
  new lt l first =
      let e : k + 0 ≡ k = omega arith in
      ap (λ (i : ℕ). get_or two i 0) e
      ∙ get_or-set_other one (k + 512) k (f second) 0 (omega arith)
      ∙ get_or-set_same dst k (f first) 0 (omega arith)
  new lt l second = get_or-set_same one (k + 512) (f second) 0 (simp length-set (omega arith))

-- the two stores of any numbers that are what they should be
pub stored_is :
    (src dst : List ℕ) (w r h k e x y : ℕ) → x ≡ tight (get_or src r 0) → y ≡ powered w (get_or src (r + h) 0) →
    set (set dst k (x + y)) (k + e) (x + 24578 - y) ≡ stored src w r h k e dst
unfolding stored butterfly low high
stored_is src dst w r h k e x y a b = rw (a, b)

-- an entry of a run stands in the run's block
in_block : (h k j : ℕ) → k + j < k / h * h + h → (k + j) / h ≡ k / h
in_block h k j l = div-eq_of_lt-le h (omega (arith, div-mul-le_self k h)) (omega arith)

-- one more of each half, of any power and place that are those of its block
butterflies-more :
    (src dst dst' : List ℕ) (a h k w r : ℕ) → k < 512 → Butterflies src a h k dst → w ≡ 7 ^ (h * (a + 2 * (k / h))) % 12289 → r ≡ k + k / h * h →
    dst' ≡ stored src w r h k 512 dst → Butterflies src a h (k + 1) dst'
unfolding entry stored
butterflies-more src dst dst' a h k w r lt old ew er e =
    rw e
    (record {
      size = two-length dst k (λ c. butterfly c src w r h) ∙ old.size;
      made =
          λ c. below_more _ k (λ j p. earlier dst k (λ c. butterfly c src w r h) lt c j p ∙ old.made c j p)
          (new dst k (λ c. butterfly c src w r h) lt old.size c ∙ rw (ew, er));
    })

-- and in a run from k on
pub run_more :
    (src dst dst' : List ℕ) (a h k j w : ℕ) → k + j < k / h * h + h → k / h * h + h ≤ 512 → Butterflies src a h (k + j) dst →
    w ≡ 7 ^ (h * (a + 2 * (k / h))) % 12289 → dst' ≡ stored src w (k + k / h * h + j) h (k + j) 512 dst → Butterflies src a h (k + (j + 1)) dst'
run_more src dst dst' a h k j w l m old ew e =
    let b : (k + j) / h ≡ k / h = in_block h k j l in
    rw (← add_assoc k j 1) (butterflies-more src dst dst' a h (k + j) w (k + k / h * h + j) (omega arith) old (rw b ew) (rw b (omega arith)) e)

-- ---- levels across: entry o of all blocks side by side

-- an entry that was made before stands in a row before, or earlier in the same row
data Earlier (m o i p j : ℕ) : Type 0 where
  row_before : p * m + m ≤ o * m → Earlier m o i p j
  same_row : p * m ≡ o * m → j < i → Earlier m o i p j

next_row : (m p o : ℕ) → p < o → p * m + m ≤ o * m
next_row m p o l = omega (arith, mul-le-mul_right m l)

is-earlier : (m o i p j : ℕ) → i < m → j < m → p * m + j < o * m + i → Earlier m o i p j
is-earlier m o i p j hi hj l = go (dec_lt p o) (dec_lt o p)
  where
    go : Dec (p < o) → Dec (o < p) → Earlier m o i p j
    go (yes a) b = row_before (next_row m p o a)
    go (no a) (yes b) = absurd (omega (arith, next_row m o p b))
    go (no a) (no b) =
        let e : p ≡ o = omega arith in
        let f : p * m ≡ o * m = ap (λ (x : ℕ). x * m) e in
        same_row f (omega arith)

same_place : (m o i p j : ℕ) → i < m → j < m → p * m + j ≡ o * m + i → p ≡ o
same_place m o i p j hi hj l = go (dec_lt p o) (dec_lt o p)
  where
    go : Dec (p < o) → Dec (o < p) → p ≡ o
    go (yes a) b = absurd (omega (arith, next_row m p o a))
    go (no a) (yes b) = absurd (omega (arith, next_row m o p b))
    go (no a) (no b) = omega arith

module _ (src ws dst : List ℕ) (h m u v o i : ℕ) (hi : i < m) (room : o * (2 * m) + i + m < 1024) (old : Crossed src ws h m u v (o * m + i) dst) where
  abbrev at : ℕ
  at = o * (2 * m) + i

  abbrev f : Half → ℕ
  f c = butterfly c src (get_or ws i 0) (o * u + i * v) (h * u)

  abbrev front : List ℕ
  front = set dst at (f first)

  abbrev after : List ℕ
  after = set front (at + m) (f second)

  kept : (c : Half) (p j : ℕ) → j < m → Earlier m o i p j → get_or after (p * (2 * m) + j + beside m c) 0 ≡ get_or dst (p * (2 * m) + j + beside m c) 0
  unfolding beside
  kept first p j l (row_before a) = get_or-set_other front (at + m) _ (f second) 0 (omega arith) ∙ get_or-set_other dst at _ (f first) 0 (omega arith)
  kept first p j l (same_row a b) = get_or-set_other front (at + m) _ (f second) 0 (omega arith) ∙ get_or-set_other dst at _ (f first) 0 (omega arith)
  kept second p j l (row_before a) = get_or-set_other front (at + m) _ (f second) 0 (omega arith) ∙ get_or-set_other dst at _ (f first) 0 (omega arith)
  kept second p j l (same_row a b) = get_or-set_other front (at + m) _ (f second) 0 (omega arith) ∙ get_or-set_other dst at _ (f first) 0 (omega arith)

  here : (c : Half) → get_or after (at + beside m c) 0 ≡ f c
  unfolding beside
  here first =
      let e : at + 0 ≡ at = omega arith in
      ap (λ (n : ℕ). get_or after n 0) e
      ∙ get_or-set_other front (at + m) at (f second) 0 (omega arith)
      ∙ get_or-set_same dst at (f first) 0 (omega (arith, old.size))
  here second = get_or-set_same front (at + m) (f second) 0 (simp length-set (omega (arith, old.size)))

  now-made : (c : Half) (p j : ℕ) → j < m → p * m + j < o * m + (i + 1) → get_or after (p * (2 * m) + j + beside m c) 0 ≡ butterfly c src (get_or ws j 0) (p * u + j * v) (h * u)
  now-made c p j l q = go (dec_lt (p * m + j) (o * m + i))
    where
      go : Dec (p * m + j < o * m + i) → get_or after (p * (2 * m) + j + beside m c) 0 ≡ butterfly c src (get_or ws j 0) (p * u + j * v) (h * u)
      go (yes a) = kept c p j l (is-earlier m o i p j hi l a) ∙ old.made c p j l a
      go (no a) =
          let e : p ≡ o = same_place m o i p j hi l (omega arith) in
          let g : p * m ≡ o * m = ap (λ (x : ℕ). x * m) e in
          let d : j ≡ i = omega arith in
          rw (e, d) (here c)

  pub crossed-more : (dst' : List ℕ) → dst' ≡ stored src (get_or ws i 0) (o * u + i * v) (h * u) at m dst → Crossed src ws h m u v (o * m + (i + 1)) dst'
  unfolding stored
  crossed-more dst' e = rw e (record { size = simp length-set old.size; made = now-made })

-- ---- the powers of a level across

module _ (a h i : ℕ) (ws fs : List ℕ) (x y : ℕ) (hi : i < 512) (ex : x ≡ 7 ^ (h * (a + 2 * i)) % 12289) (ey : y ≡ factor x) (old : Powers a h i ws fs) where
  abbrev xs : List ℕ
  xs = set ws i x

  abbrev ys : List ℕ
  ys = set fs i y

  x-before : (j : ℕ) → j < i → get_or xs j 0 ≡ get_or ws j 0
  x-before j p = get_or-set_other ws i j x 0 (omega arith)

  y-before : (j : ℕ) → j < i → get_or ys j 0 ≡ get_or fs j 0
  y-before j p = get_or-set_other fs i j y 0 (omega arith)

  x-now : get_or xs i 0 ≡ x
  x-now = get_or-set_same ws i x 0 (omega (arith, old.factors.long))

  y-now : get_or ys i 0 ≡ y
  y-now = get_or-set_same fs i y 0 (omega (arith, old.factors.also))

  pub powers-more : Powers a h (i + 1) xs ys
  powers-more =
      record {
        power = below_more _ i (λ j p. x-before j p ∙ old.power j p) (x-now ∙ ex);
        factors =
            record {
              fits = omega arith;
              long = length-set ws i x ∙ old.factors.long;
              also = length-set fs i y ∙ old.factors.also;
              word = below_more _ i (λ j p. rw (x-before j p) (old.factors.word j p)) (rw (x-now, ex) (mod-lt _ (omega arith)));
              told =
                  below_more _ i (λ j p. y-before j p ∙ old.factors.told j p ∙ ap factor (sym (x-before j p)))
                  (y-now ∙ ey ∙ ap factor (sym x-now));
            };
      }

-- ---- bounds

-- the power of a block
pub block-≤ : (a h m i : ℕ) → a < 2 → h * m ≡ 512 → i < m → h * (a + 2 * i) ≤ 1536
block-≤ a h m i p e l =
    let d : h * (a + 2 * i) ≡ h * a + 2 * (h * i) = omega arith in
    let f : h * (i + 1) ≤ h * m = mul-le-mul_left h (omega arith) in
    let g : h * a ≤ h * 1 = mul-le-mul_left h (omega arith) in
    let k : h * 1 ≤ h * m = mul-le-mul_left h (omega arith) in
    omega arith

-- a product with a reduced number fits
pub product-fits : (x y : ℕ) → x < 12289 → y < 2 ^ 18 → x * y < 2 ^ 32
product-fits x y p q = omega (arith, mul-le-mul {n₁ = x} {m₁ = y} {n₂ = 12288} {m₂ = 262143} (omega arith) (omega arith))

-- the power that a run reads
pub exponent-≤ : (a h k : ℕ) → a < 2 → h ≤ 512 → k ≤ 512 → h * (a + 2 * (k / h)) ≤ 1536
exponent-≤ a h k p q r =
    let e : h * (a + 2 * (k / h)) ≡ h * a + 2 * (h * (k / h)) = omega arith in
    let f : h * a ≤ 512 * 1 = mul-le-mul {m₂ = 1} q (omega arith) in
    omega (arith, mul-div-le k h)

-- c times d and c times b
some : (c d h : ℕ) → h ≡ c * d → 0 < h → 0 < d
some c zero h e p = absurd (omega arith)
some c (suc d) h e p = omega arith

within : (c d b n h k : ℕ) → h ≡ c * d → k ≡ c * b → b < n * d + d → k + c ≤ n * h + h
within c d b n h k e f l =
    let m : c * (b + 1) ≤ c * (n * d + d) = mul-le-mul_left c (omega arith) in
    let g : n * h ≡ n * (c * d) = ap (λ (x : ℕ). n * x) e in
    omega arith

-- a run of c, where c divides h and k, lies in one block, and that, where h divides 512, within the half
pub next-run : (h c k : ℕ) → 0 < h → 512 % h ≡ 0 → 0 < c → h % c ≡ 0 → k % c ≡ 0 → k < 512 → OneBlock h c k
next-run h c k p e q f g l =
    let hd : h ≡ c * (h / c) = omega (arith, div-add-mod h c) in
    let kb : k ≡ c * (k / c) = omega (arith, div-add-mod k c) in
    let hm : 512 / h * h ≡ 512 = omega (arith, div-add-mod' 512 h) in
    let n : k / h ≡ k / c / (h / c) = ap₂ (λ (x y : ℕ). x / y) kb hd ∙ mul-div-mul_left (k / c) (h / c) q in
    let s : k / c < k / h * (h / c) + h / c = rw n (lt-div-mul-add (some c (h / c) h hd p)) in
    let m : k / h < 512 / h = (div-lt_iff_lt-mul p).1 (omega arith) in
    record { block = within c (h / c) (k / c) (k / h) h k hd kb s; half = omega (arith, mul-le-mul_right h m) }
