-- NewHope's margin on a group of four.
--   margin       8 times the distance and the replier's own 2q + 16 within 8q: the bit is 0 exactly where p3 is 2 or 3
--   agreement    so both ends compute the same bit
--   published    which is the published one
use Rattle.lists.proofs.Kit.{refl, ◌∙◌, sym, ap, Bool, true, false, cond, ℕ, zero, suc, arith, ltb, pos, ltb-true}
use Rattle.std.proofs.Common.{◌≡◌, ◌+◌, ◌*◌, ◌-◌, ◌/◌, ◌%◌, ◌<◌, ◌≤◌, ◌-ℤ◌}
use Rattle.lists.proofs.Kit.{ltb-false, le-leb, lt-leb}
use lib.IntN.{+ℤ_invr}
use Rattle.numbers.specs.Residue.{residue, apart}
use Rattle.numbers.proofs.Circle.{apart-self}
use Rattle.newhope.specs.Group.{Four, q, up_of, down_of, offs_of, k_of, p_of, less_of, last_of, hint_of, term_of, sum_of, bit_of}
use Rattle.newhope.specs.Shown.{apart_of, Agreement, Published}
use Rattle.newhope.proofs.Entry.{term-same, named, moved, opposite, own-up, own-down, up-five, down-five}

module _ (b : ℕ) (v : Four) where
  -- k and p, below 2 and 5
  two : k_of b v < 2
  unfolding k_of
  two = go (ltb (offs_of b v) q)
    where
      go : (t : Bool) → cond t 0 1 < 2
      go true = omega arith
      go false = omega arith

  five : b < 2 → (x : ℕ) → x < q → p_of b v x < 5
  unfolding p_of
  five hb x hx = go (ltb (offs_of b v) q)
    where
      go : (t : Bool) → cond t (up_of b x) (down_of b x) < 5
      go true = up-five b x hb hx
      go false = down-five b x hb hx

  -- 1 where p3 is 2 or 3; of p3 the hint has no more than whether it is odd
  half : ℕ
  half = p_of b v v.e3 / 2 % 2

  -- the published bit: 0 there
  key : ℕ
  key = 1 - half

  -- what the hint names, but for 4 times the half
  c-of : ℕ → ℕ
  c-of x = 2 * p_of b v x + k_of b v

  hinted : (x y : ℕ) → term_of (2 * less_of b v x + last_of b v) y ≡ term_of (c-of x + 4 * half) y
  unfolding less_of last_of half c-of
  hinted x y = term-same y (named (k_of b v) (p_of b v x) (p_of b v v.e3) two)

  -- the replier's four together
  own : Bool → ℕ → ℕ
  own t x = term_of (2 * cond t (up_of b x) (down_of b x) + cond t 0 1) x

  total : b < 2 → term_of (c-of v.e0) v.e0 + term_of (c-of v.e1) v.e1 + term_of (c-of v.e2) v.e2 + term_of (c-of v.e3) v.e3 ≤ 2 * q + 16
  unfolding c-of p_of k_of own offs_of
  total hb = go (ltb (offs_of b v) q) refl
    where
      go : (t : Bool) → ltb (offs_of b v) q ≡ t → own t v.e0 + own t v.e1 + own t v.e2 + own t v.e3 ≤ 2 * q + 16
      go true e = omega (arith, ltb-true (offs_of b v) q e, own-up b v.e0, own-up b v.e1, own-up b v.e2, own-up b v.e3)
      go false e = omega (arith, ltb-false (offs_of b v) q e, own-down b v.e0, own-down b v.e1, own-down b v.e2, own-down b v.e3)

  -- a term of w under the hint
  near : half ≡ 0 → (x y : ℕ) → term_of (2 * less_of b v x + last_of b v) y ≤ 8 * apart q x y + term_of (c-of x) x
  near e x y =
      let c : term_of (c-of x + 4 * half) y ≡ term_of (c-of x) y = ap (λ (c : ℕ). term_of c y) (omega arith) in
      omega (arith, hinted x y, moved (c-of x) x y)

  far : half ≡ 1 → (x y : ℕ) → 4 * q ≤ 8 * apart q x y + term_of (c-of x) x + term_of (2 * less_of b v x + last_of b v) y
  far e x y =
      let c : term_of (c-of x + 4 * half) y ≡ term_of (c-of x + 4) y = ap (λ (c : ℕ). term_of c y) (omega arith) in
      omega (arith, hinted x y, opposite (c-of x) y, moved (c-of x) x y)

  -- the last entry's difference is 0
  last : (y : ℕ) → term_of (last_of b v) y ≡ term_of (2 * less_of b v v.e3 + last_of b v) y
  unfolding less_of residue
  last y =
      let e : residue 4 (pos (p_of b v v.e3) -ℤ pos (p_of b v v.e3)) ≡ 0 = ap (residue 4) (+ℤ_invr (pos (p_of b v v.e3))) in
      ap (λ (c : ℕ). term_of c y) (omega arith)

  half-two : half < 2
  unfolding half
  half-two = omega arith

  margin : b < 2 → (w : Four) → 8 * apart_of v w + (2 * q + 16) ≤ 8 * q → bit_of (hint_of b v) w ≡ key
  unfolding key bit_of sum_of hint_of apart_of
  margin hb w d = go half refl half-two
    where
      go : (n : ℕ) → half ≡ n → n < 2 → bit_of (hint_of b v) w ≡ 1 - n
      go zero e l =
          let t : sum_of (hint_of b v) w ≤ 8 * q =
          omega (arith, total hb, last w.e3, near e v.e0 w.e0, near e v.e1 w.e1, near e v.e2 w.e2, near e v.e3 w.e3) in
          rw (le-leb (sum_of (hint_of b v) w) (8 * q) t)
      go (suc zero) e l =
          let t : 8 * q < sum_of (hint_of b v) w =
          omega (arith, total hb, last w.e3, far e v.e0 w.e0, far e v.e1 w.e1, far e v.e2 w.e2, far e v.e3 w.e3) in
          rw (lt-leb (sum_of (hint_of b v) w) (8 * q) t)
      go (suc (suc n)) e l = absurd (omega arith)

  -- the replier's own bit
  replier : b < 2 → bit_of (hint_of b v) v ≡ key
  unfolding apart_of
  replier hb =
      let o : (x : ℕ) → apart q x x ≡ 0 = λ x. apart-self q x (omega arith) in
      margin hb v (omega (arith, o v.e0, o v.e1, o v.e2, o v.e3))

pub agreement : Agreement
agreement b v w hb hv hw d = margin b v hb w (omega arith) ∙ sym (replier b v hb)

pub published : Published
unfolding key half
published b v hb hv =
    let e : bit_of (hint_of b v) v ≡ 1 - p_of b v v.e3 / 2 % 2 = replier b v hb in
    let h : p_of b v v.e3 < 5 = five b v hb v.e3 hv.s3 in
    (λ k. (omega arith, omega arith), λ k. omega arith)
