-- The kernel's numbers in the machine: one product, and sums added.
--   widen-fits, widen        a number of 16 bits in 32
--   one-fits, one            one product
--   span-one, span-join, span_small   the products of some neighbouring entries: of one, of some and those behind them, and their size
--   secret-small             the size of one secret
--   near_fits, far-fits, all-fits, all   four such sums of m products, one behind the other, added two by two
--   first-none, first_fits, first_more   the sum of the first i products
--   plus-*                   two numbers of one type
use Rattle.lists.proofs.Kit.{◌≡◌, refl, sym, ap, ap₂, ◌∙◌, subst, List, ℕ, ◌+◌, ◌*◌, ◌^◌, ◌≤◌, ◌<◌, arith, mul-le-mul, le_refl, get_or, length, ℤ, pos, nat_abs}
use Rattle.lists.proofs.Kit.{◌+ℤ◌, ◌*ℤ◌, +ℤ_idl, Width, w16, w32, SFits, to_z, of_z, hbits, to_z-of_z, sfits_widen}
use Rattle.numbers.specs.Sum.{sum}
use Rattle.numbers.proofs.Size.{abs-add, abs-mul-≤, abs-sum}
use Rattle.numbers.proofs.{Sums.whole, Sums.sum-ext, Sums.sum-split, Machine.fits-abs}
use Rattle.lists.specs.Entries.{ints}
use Rattle.polynomial.specs.Steps.{dot, span, Pair}

-- ---- one product

-- a number of 16 bits, as 32 bits read it
abbrev pub widened16 : ℤ → ℤ
widened16 z = to_z w32 (of_z w32 (to_z w16 (of_z w16 z)))

pub widen-fits : (z : ℤ) → SFits w16 z → SFits w32 (to_z w16 (of_z w16 z))
widen-fits z f = rw (to_z-of_z f) (sfits_widen tt f)

pub widen : (z : ℤ) → SFits w16 z → widened16 z ≡ z
widen z f = to_z-of_z (widen-fits z f) ∙ to_z-of_z f

module _ (x s : ℤ) (fx : SFits w16 x) (fs : SFits w16 s) (hx : nat_abs x ≤ 32768) (hs : nat_abs s ≤ 52224) where
  one-is : widened16 x *ℤ widened16 s ≡ x *ℤ s
  one-is = ap₂ (λ (y z : ℤ). y *ℤ z) (widen x fx) (widen s fs)

  pub one-fits : SFits w32 (widened16 x *ℤ widened16 s)
  one-fits = subst (SFits w32) (sym one-is) (fits-abs w32 (x *ℤ s) (omega (arith, abs-mul-≤ x s hx hs)))

  pub one : to_z w32 (of_z w32 (widened16 x *ℤ widened16 s)) ≡ x *ℤ s
  one = to_z-of_z one-fits ∙ one-is

-- ---- the products of neighbouring entries

pub span-one : (w s : List ℤ) (i : ℕ) → get_or w i (pos 0) *ℤ get_or s i (pos 0) ≡ span 1 w s i
unfolding span dot sum ints
span-one w s i =
    let e : i + 0 ≡ i = omega arith in
    sym (+ℤ_idl _ ∙ ap₂ (λ (x y : ℤ). x *ℤ y) (ap (λ (k : ℕ). get_or w k (pos 0)) e) (ap (λ (k : ℕ). get_or s k (pos 0)) e))

pub span-join : (m n : ℕ) (w s : List ℤ) (i : ℕ) → span m w s i +ℤ span n w s (i + m) ≡ span (m + n) w s i
unfolding span dot
span-join m n w s i =
    sym
    (sum-split whole m n _
    ∙ ap (λ (t : ℤ). span m w s i +ℤ t)
    (sum-ext whole n _ _ (λ j p.
    let e : i + (m + j) ≡ i + m + j = omega arith in
    ap (λ (k : ℕ). ints w k *ℤ ints s k) e)))

pub span-size : (m : ℕ) (w s : List ℤ) (i : ℕ) (p : Pair w s) → nat_abs (span m w s i) ≤ m * (32768 * p.size)
unfolding span dot ints
span-size m w s i p =
    abs-sum m (32768 * p.size) _ (λ j l. abs-mul-≤ (get_or w (i + j) (pos 0)) (get_or s (i + j) (pos 0)) (p.w-within.within (i + j)) (p.s-within.within (i + j)))

-- in all at most 32768 * 51 * 1024
pub span_small : (m : ℕ) (w s : List ℤ) (i : ℕ) → Pair w s → m ≤ length w → nat_abs (span m w s i) ≤ 1711276032
span_small m w s i p h =
    let k : m * p.size ≤ length w * p.size = mul-le-mul h (le_refl p.size) in
    omega (arith, span-size m w s i p, p.room, k)

span_fits : (m : ℕ) (w s : List ℤ) (i : ℕ) → Pair w s → m ≤ length w → SFits w32 (span m w s i)
span_fits m w s i p h = fits-abs w32 _ (omega (arith, span_small m w s i p h))

pub secret-small : (w s : List ℤ) (i : ℕ) → Pair w s → i < length w → nat_abs (get_or s i (pos 0)) ≤ 52224
secret-small w s i p h =
    let o : 1 ≤ length w = omega arith in
    let k : 1 * p.size ≤ length w * p.size = mul-le-mul o (le_refl p.size) in
    omega (arith, p.s-within.within i, p.room, k)

-- two sums, one behind the other
module _ (m : ℕ) (w s : List ℤ) (i : ℕ) (p : Pair w s) (h : i + (m + m) ≤ length w) {x y : ℤ} (ex : x ≡ span m w s i) (ey : y ≡ span m w s (i + m)) where
  twice-is : x +ℤ y ≡ span (m + m) w s i
  twice-is = ap₂ (λ (a b : ℤ). a +ℤ b) ex ey ∙ span-join m m w s i

  twice-fits : SFits w32 (x +ℤ y)
  twice-fits = subst (SFits w32) (sym twice-is) (span_fits (m + m) w s i p (omega arith))

  twice : to_z w32 (of_z w32 (x +ℤ y)) ≡ span (m + m) w s i
  twice = to_z-of_z twice-fits ∙ twice-is

-- a number as 32 bits read it
abbrev pub read32 : ℤ → ℤ
read32 z = to_z w32 (of_z w32 z)

-- four sums that are promised, one behind the other: the nearer two, the farther two, and all
module _ (m : ℕ) (w s : List ℤ) (i : ℕ) (h : Pair w s × (i + (m + m + (m + m)) ≤ length w)) where
  read : {x : ℤ} (k : ℕ) → x ≡ span m w s k → read32 x ≡ span m w s k
  read k e = ap read32 e ∙ to_z-of_z (span_fits m w s k h.0 (omega (arith, h.1)))

  module _ {x y : ℤ} (ex : x ≡ span m w s i) (ey : y ≡ span m w s (i + m)) where
    pub near_fits : SFits w32 (read32 x +ℤ read32 y)
    near_fits = twice-fits m w s i h.0 (omega (arith, h.1)) (read i ex) (read (i + m) ey)

    near : read32 (read32 x +ℤ read32 y) ≡ span (m + m) w s i
    near = twice m w s i h.0 (omega (arith, h.1)) (read i ex) (read (i + m) ey)

  module _ {x y : ℤ} (ex : x ≡ span m w s (i + (m + m))) (ey : y ≡ span m w s (i + (m + m) + m)) where
    pub far-fits : SFits w32 (read32 x +ℤ read32 y)
    far-fits = twice-fits m w s (i + (m + m)) h.0 (omega (arith, h.1)) (read (i + (m + m)) ex) (read (i + (m + m) + m) ey)

    far : read32 (read32 x +ℤ read32 y) ≡ span (m + m) w s (i + (m + m))
    far = twice m w s (i + (m + m)) h.0 (omega (arith, h.1)) (read (i + (m + m)) ex) (read (i + (m + m) + m) ey)

  module _ {x y u v : ℤ} (ex : x ≡ span m w s i) (ey : y ≡ span m w s (i + m)) (eu : u ≡ span m w s (i + (m + m))) (ev : v ≡ span m w s (i + (m + m) + m)) where
    pub all-fits : SFits w32 (read32 (read32 x +ℤ read32 y) +ℤ read32 (read32 u +ℤ read32 v))
    all-fits = twice-fits (m + m) w s i h.0 h.1 (near ex ey) (far eu ev)

    pub all : read32 (read32 (read32 x +ℤ read32 y) +ℤ read32 (read32 u +ℤ read32 v)) ≡ span (m + m + (m + m)) w s i
    all = twice (m + m) w s i h.0 h.1 (near ex ey) (far eu ev)

-- ---- the first i products

pub first-none : (w s : List ℤ) → pos 0 ≡ span 0 w s 0
unfolding span dot sum
first-none w s = refl

module _ (m : ℕ) (w s : List ℤ) (i t : ℕ) (y : ℤ) (p : Pair w s) (few : i + m ≤ length w) (et : to_z w32 t ≡ span i w s 0) (ey : y ≡ span m w s i) where
  first-is : to_z w32 t +ℤ to_z w32 (of_z w32 y) ≡ span (i + m) w s 0
  first-is =
      let e : i ≡ 0 + i = omega arith in
      ap₂ (λ (a b : ℤ). a +ℤ b)
      et
      (ap (λ (b : ℤ). to_z w32 (of_z w32 b)) ey ∙ to_z-of_z (span_fits m w s i p (omega arith)) ∙ ap (span m w s) e)
      ∙ span-join i m w s 0

  pub first_fits : SFits w32 (to_z w32 t +ℤ to_z w32 (of_z w32 y))
  first_fits = subst (SFits w32) (sym first-is) (span_fits (i + m) w s 0 p few)

  pub first_more : to_z w32 (of_z w32 (to_z w32 t +ℤ to_z w32 (of_z w32 y))) ≡ span (i + m) w s 0
  first_more = to_z-of_z first_fits ∙ first-is

-- ---- two numbers added where they stand

module _ (w : Width) (x y : ℤ) (fx : SFits w x) (fy : SFits w y) (few : nat_abs x + nat_abs y < 2 ^ hbits w) where
  plus-is : to_z w (of_z w x) +ℤ to_z w (of_z w y) ≡ x +ℤ y
  plus-is = ap₂ (λ (a b : ℤ). a +ℤ b) (to_z-of_z fx) (to_z-of_z fy)

  pub plus-fits : SFits w (to_z w (of_z w x) +ℤ to_z w (of_z w y))
  plus-fits = subst (SFits w) (sym plus-is) (fits-abs w _ (omega (arith, abs-add x y)))

  pub plus-read : to_z w (of_z w (to_z w (of_z w x) +ℤ to_z w (of_z w y))) ≡ x +ℤ y
  plus-read = to_z-of_z plus-fits ∙ plus-is

-- ---- a secret in 16 bits

module _ (z : ℤ) (f : SFits w32 z) (h : nat_abs z ≤ 51) where
  pub secret-fits : SFits w16 (to_z w32 (of_z w32 z))
  secret-fits = rw (to_z-of_z f) (fits-abs w16 z (omega arith))

  pub secret : to_z w16 (of_z w16 (to_z w32 (of_z w32 z))) ≡ z
  secret = to_z-of_z secret-fits ∙ to_z-of_z f
