-- The search of `specs/Least.antt` finds a least number among those with the mark.
--   Least f p n z   z is at most n and has the mark where it is below n; where a number below n has the mark, z is below n, and f is no less there than at z
--   least-below     `least_below f p n` is such a z
use mathlib.{Core.Path.◌≡◌, Core.Path.refl, Core.Bool.Bool, Core.Bool.true, Core.Bool.false}
use Prim.Native.Nat.{ℕ, zero, suc, ◌≤◌, ◌<◌}
use native.{Mathlib.Nat.not-suc-le-zero, Mathlib.Numerals.add-one, Mathlib.Omega.arith}
use lib.Dec.{eqb, ltb}
use borrow.{Author.Count.below_more, Author.Tests.ltb-true, Author.Tests.ltb-false, Author.Tests.eqb-true, Author.Tests.eqb-false}
use Rattle.numbers.specs.Least.{choose, least_below}

pub record Least (f : ℕ → ℕ) (p : ℕ → Bool) (n z : ℕ) : Type 0 where
  pub within : z ≤ n
  pub marked : z < n → p z ≡ true
  pub least : (y : ℕ) → y < n → p y ≡ true → (z < n) × (f z ≤ f y)

below_suc : (P : ℕ → Type 0) (n : ℕ) → ((y : ℕ) → y < n → P y) → P n → (y : ℕ) → y < suc n → P y
below_suc P n all here = rw (← add-one n) (below_more P n all here)

module _ (f : ℕ → ℕ) (p : ℕ → Bool) where
  clash : {n : ℕ} → p n ≡ false → p n ≡ true → ⊥
  clash e q = let z : ◌≡◌ {A = ℕ} 0 1 = cc in omega arith

  -- from z among the numbers below n to x among those below n + 1: x is as good as z, where z is one of them, and as n, where n has the mark
  next : (n z x : ℕ) → Least f p n z → x ≤ suc n → (x < suc n → p x ≡ true) → (z < n → (x < suc n) × (f x ≤ f z))
      → (p n ≡ true → (x < suc n) × (f x ≤ f n)) → Least f p (suc n) x
  next n z x l w m old new =
      record {
        within = w;
        marked = m;
        least = below_suc (λ y. p y ≡ true → (x < suc n) × (f x ≤ f y)) n
            (λ y b q.
            let a = l.least y b q in
            let c = old a.0 in
            (c.0, omega arith))
            new;
      }

  more : (n z : ℕ) (a b c : Bool) → p n ≡ a → eqb z n ≡ b → ltb (f n) (f z) ≡ c → Least f p n z → Least f p (suc n) (choose a b c z n)
  unfolding choose
  more n z true true c ea eb ec l =
      let e = eqb-true z n eb in
      next n z n l (omega arith) (λ i. ea) (λ i. absurd (omega arith)) (λ q. (omega arith, omega arith))
  more n z true false true ea eb ec l =
      let i = ltb-true (f n) (f z) ec in
      next n z n l (omega arith) (λ j. ea) (λ j. (omega arith, omega arith)) (λ q. (omega arith, omega arith))
  more n z true false false ea eb ec l =
      let i = ltb-false (f n) (f z) ec in
      let d = eqb-false z n eb in
      let j : z < n = omega (arith, l.within) in
      next n z z l (omega arith) (λ k. l.marked j) (λ k. (omega arith, omega arith)) (λ q. (omega arith, i))
  more n z false true c ea eb ec l =
      let e = eqb-true z n eb in
      next n z (suc n) l (omega arith) (λ i. absurd (omega arith)) (λ i. absurd (omega arith)) (λ q. absurd (clash ea q))
  more n z false false c ea eb ec l =
      let d = eqb-false z n eb in
      let j : z < n = omega (arith, l.within) in
      next n z z l (omega arith) (λ k. l.marked j) (λ k. (omega arith, omega arith)) (λ q. absurd (clash ea q))

  pub least-below : (n : ℕ) → Least f p n (least_below f p n)
  unfolding least_below
  least-below zero =
      record {
        within = omega arith;
        marked = λ i. absurd (not-suc-le-zero i);
        least = λ y b q. absurd (not-suc-le-zero b);
      }
  least-below (suc n) = more n _ _ _ _ refl refl refl (least-below n)
