-- How far x lies, around a circle of m numbers, from the nearest one that has a mark.
--   nearest-least   the search finds a nearest one
--   nearest-of      as the rule has it, where the mark says that f is h and some number has it
--   away-at-most    so it is at most the distance of any that has it
--   away-none       it is 0 where x has the mark
--   Arc             x stands in a stretch lo .. hi - 1 of numbers without the mark, and both neighbours of the stretch have it
--   away-arc        then it is the way to the nearer end
use mathlib.{Core.Path.◌≡◌, Core.Bool.Bool, Core.Bool.true}
use Prim.Native.Nat.{ℕ, ◌+◌, ◌-◌, ◌≤◌, ◌<◌, min}
use native.{Mathlib.Decide.dec_lt, Mathlib.Decide.dec_le, Mathlib.Decide.ℕ_discrete, Mathlib.Nat.le_refl, Mathlib.Nat.le_trans, Mathlib.Omega.arith}
use lib.Dec.{eqb}
use borrow.Author.Tests.{eq-eqb, eqb-true}
use Rattle.numbers.specs.{Residue.apart, Congruence.Close, Congruence.direct, Congruence.over, Congruence.under, Congruence.Nearest}
use Rattle.numbers.specs.Least.{nearest_to, gap_to}
use Rattle.numbers.proofs.{Circle.apart-close, Circle.close-apart, Circle.apart-self, Least.Least, Least.least-below}

module _ (m : ℕ) (p : ℕ → Bool) (x : ℕ) where
  pub nearest-least : Least (λ z. apart m z x) p m (nearest_to m p x)
  unfolding nearest_to
  nearest-least = least-below (λ z. apart m z x) p m

  pub away-at-most : (z : ℕ) → z < m → p z ≡ true → gap_to m p x ≤ apart m z x
  unfolding gap_to
  away-at-most z l e = (nearest-least.least z l e).1

  pub away-none : x < m → p x ≡ true → gap_to m p x ≡ 0
  away-none l e = omega (arith, away-at-most x l e, apart-self m x (omega arith))

  pub record Arc (lo hi : ℕ) : Type 0 where
    pub from : lo ≤ x
    pub to : x < hi
    pub room : hi ≤ m
    pub bare : (z : ℕ) → lo ≤ z → z < hi → p z ≡ true → ⊥
    pub ahead : hi < m → p hi ≡ true
    pub first : hi ≡ m → p 0 ≡ true
    pub behind : 0 < lo → p (lo - 1) ≡ true
    pub last : lo ≡ 0 → p (m - 1) ≡ true

  module _ {lo hi : ℕ} (a : Arc lo hi) where
    -- no number with the mark is nearer than an end
    beyond : (z : ℕ) → (z < lo → ⊥) → (hi ≤ z → ⊥) → p z ≡ true → ⊥
    beyond z b c e = a.bare z (omega arith) (omega arith) e

    side : (z d : ℕ) → z < m → Dec (z < lo) → Dec (hi ≤ z) → p z ≡ true → Close m d z x → min (x + 1 - lo) (hi - x) ≤ d
    side z d l (yes i) j e (direct g h) = omega (arith, a.from)
    side z d l (no i) (yes j) e (direct g h) = omega (arith, a.to)
    side z d l (no i) (no j) e (direct g h) = absurd (beyond z i j e)
    side z d l i j e (over g) = omega (arith, a.room)
    side z d l i j e (under g) = omega (arith, a.from)

    pub no-nearer : (z : ℕ) → z < m → p z ≡ true → min (x + 1 - lo) (hi - x) ≤ apart m z x
    no-nearer z l e = side z _ l (dec_lt z lo) (dec_le hi z) e (apart-close m z x l (omega (arith, a.to, a.room)) (le_refl _))

    -- both ends are reached
    by : (z d : ℕ) → z < m → p z ≡ true → Close m d z x → gap_to m p x ≤ d
    by z d l e n = le_trans (away-at-most z l e) (close-apart m z x l (omega (arith, a.to, a.room)) n)

    to-hi : gap_to m p x ≤ hi - x
    to-hi = go (dec_lt hi m)
      where
        go : Dec (hi < m) → gap_to m p x ≤ hi - x
        go (yes l) = by hi _ l (a.ahead l) (direct (omega (arith, a.to)) (omega (arith, a.to)))
        go (no l) =
            let e : hi ≡ m = omega (arith, a.room) in
            by 0 _ (omega (arith, a.to)) (a.first e) (over (omega (arith, a.to)))

    to-lo : gap_to m p x ≤ x + 1 - lo
    to-lo = go (ℕ_discrete lo 0)
      where
        go : Dec (lo ≡ 0) → gap_to m p x ≤ x + 1 - lo
        go (yes e) = by (m - 1) _ (omega (arith, a.to, a.room)) (a.last e) (under (omega (arith, a.to, a.room)))
        go (no d) = by (lo - 1) _ (omega (arith, a.from, a.to, a.room)) (a.behind (omega arith)) (direct (omega (arith, a.from)) (omega (arith, a.from)))

    found_below : nearest_to m p x < m
    found_below = go (dec_lt hi m)
      where
        go : Dec (hi < m) → nearest_to m p x < m
        go (yes l) = (nearest-least.least hi l (a.ahead l)).0
        go (no l) =
            let e : hi ≡ m = omega (arith, a.room) in
            (nearest-least.least 0 (omega (arith, a.to)) (a.first e)).0

    found-far : min (x + 1 - lo) (hi - x) ≤ gap_to m p x
    unfolding gap_to
    found-far = no-nearer (nearest_to m p x) found_below (nearest-least.marked found_below)

    pub away-arc : gap_to m p x ≡ min (x + 1 - lo) (hi - x)
    away-arc = let f = found-far in let g = to-hi in let h = to-lo in omega arith

pub nearest-of : (m : ℕ) (f : ℕ → ℕ) (h x y : ℕ) → y < m → f y ≡ h → Nearest m (λ z. f z ≡ h) x (nearest_to m (λ z. eqb (f z) h) x)
nearest-of m f h x y l e =
    let n = nearest-least m (λ z. eqb (f z) h) x in
    let b = (n.least y l (eq-eqb _ _ e)).0 in
    record { below = b; marked = eqb-true _ _ (n.marked b); nearest = λ z i g. (n.least z i (eq-eqb _ _ g)).1 }
