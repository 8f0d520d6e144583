-- Blocks of sixteen rows, by the count.
--   block-fits        a part of one row lies in one block
--   fills_up, holds-back   it ends the block, or it does not
--   filled-div, filled-mod, held-div, held-mod   the blocks that have come whole after it, and the numbers behind them
--   row_is, row_fits, row-sixteenth   the first of the sixteen rows that it ends: its place, and that it is a multiple of 16
--   halves            which can be halved
--   whole-blocks      n is a multiple of 16, so that at the end nothing is held back
use Rattle.lists.proofs.Kit.{◌∙◌, sym, ap, Bool, true, false, cond, ℕ, arith, mul-le-mul_right, mod-lt, mod-eq_of_lt}
use Rattle.std.proofs.Common.{◌≡◌, ◌+◌, ◌*◌, ◌-◌, ◌/◌, ◌%◌, ◌<◌, ◌≤◌}
use Rattle.lists.proofs.Kit.{mod-add-mod, div-add-mod', div-lt_iff_lt-mul, mul-mod_left, mul-div_cancel, dec_lt, leb-true, eqb-true, le-leb, eq-eqb, digits_div}
use Rattle.lists.proofs.Kit.{digits_mod}
use native.Mathlib.Nat.{mod_self, mod-mod_of_dvd, div-eq_of_eq-mul_left, dvd_of_mod-eq-zero, div-le_of_le-mul}
use Rattle.rows_state.specs.State.{fills}
use Rattle.rows_state.proofs.Tests.{goes, passed}

module _ (n at m : ℕ) (some : 0 < n) (row : at % n + m ≤ n) where
  wide : 0 < 16 * n
  wide = omega arith

  pub block-fits : at % (16 * n) + m ≤ 16 * n
  block-fits =
      let o = at % (16 * n) in
      let e : o % n ≡ at % n = mod-mod_of_dvd n at (dvd_of_mod-eq-zero n (mul-mod_left 16 n)) in
      let l : o / n < 16 = (div-lt_iff_lt-mul some).1 (mod-lt at wide) in
      omega (arith, div-add-mod' o n, mul-le-mul_right n l)

  -- as the count goes on
  next : (at + m) % (16 * n) ≡ (at % (16 * n) + m) % (16 * n)
  next = sym (mod-add-mod at (16 * n) m)

  pub fills_up : fills n at m ≡ true → at % (16 * n) + m ≡ 16 * n
  unfolding fills
  fills_up h = go (dec_lt (at % (16 * n) + m) (16 * n))
    where
      go : Dec (at % (16 * n) + m < 16 * n) → at % (16 * n) + m ≡ 16 * n
      go (yes l) =
          let a = passed _ _ h in
          let z : at % (16 * n) + m ≡ 0 = sym (mod-eq_of_lt l) ∙ sym next ∙ eqb-true _ _ a.1 in
          absurd (omega (arith, leb-true 1 m a.0))
      go (no l) = omega (arith, block-fits)

  pub holds-back : fills n at m ≡ false → at % (16 * n) + m < 16 * n
  unfolding fills
  holds-back h = go (dec_lt (at % (16 * n) + m) (16 * n))
    where
      go : Dec (at % (16 * n) + m < 16 * n) → at % (16 * n) + m < 16 * n
      go (yes l) = l
      go (no l) =
          let e : at % (16 * n) + m ≡ 16 * n = omega (arith, block-fits) in
          let o : 1 ≤ m = omega (arith, mod-lt at wide) in
          let z : (at + m) % (16 * n) ≡ 0 = next ∙ ap (λ (k : ℕ). k % (16 * n)) e ∙ mod_self (16 * n) in
          let t : fills n at m ≡ true = sym (goes (le-leb 1 m o) (sym (eq-eqb _ _ z))) in
          let d : ◌≡◌ {A = ℕ} 0 1 = ap (λ (b : Bool). cond b 1 0) (sym h ∙ t) in
          absurd (omega arith)

  parted : at + m ≡ at / (16 * n) * (16 * n) + (at % (16 * n) + m)
  parted = omega (arith, div-add-mod' at (16 * n))

  module _ (h : fills n at m ≡ false) where
    pub held-div : (at + m) / (16 * n) ≡ at / (16 * n)
    held-div = ap (λ (k : ℕ). k / (16 * n)) parted ∙ digits_div (at / (16 * n)) (holds-back h)

    pub held-mod : (at + m) % (16 * n) ≡ at % (16 * n) + m
    held-mod = ap (λ (k : ℕ). k % (16 * n)) parted ∙ digits_mod (at / (16 * n)) (holds-back h)

  module _ (h : fills n at m ≡ true) where
    all : at + m ≡ (at / (16 * n) + 1) * (16 * n)
    all = omega (arith, parted, fills_up h)

    pub filled-div : (at + m) / (16 * n) * (16 * n) ≡ at + m
    filled-div = ap (λ (k : ℕ). k / (16 * n) * (16 * n)) all ∙ ap (λ (k : ℕ). k * (16 * n)) (mul-div_cancel (at / (16 * n) + 1) wide) ∙ sym all

    pub filled-mod : (at + m) % (16 * n) ≡ 0
    filled-mod = ap (λ (k : ℕ). k % (16 * n)) all ∙ mul-mod_left (at / (16 * n) + 1) (16 * n)

    -- where the block started
    pub start_is : at + m - 16 * n ≡ at / (16 * n) * (16 * n)
    start_is = omega (arith, all)

    quotient : (at + m) / n ≡ (at / (16 * n) + 1) * 16
    quotient = div-eq_of_eq-mul_left some (all ∙ omega arith)

    pub row-some : 16 ≤ (at + m) / n
    row-some = omega (arith, quotient)

    pub row_is : ((at + m) / n - 16) * n ≡ at + m - 16 * n
    row_is =
        let e : (at / (16 * n) + 1) * 16 - 16 ≡ at / (16 * n) * 16 = omega arith in
        ap (λ (k : ℕ). (k - 16) * n) quotient ∙ ap (λ (k : ℕ). k * n) e ∙ sym (start_is ∙ omega arith)

    pub row-sixteenth : ((at + m) / n - 16) % 16 ≡ 0
    row-sixteenth =
        let e : (at / (16 * n) + 1) * 16 - 16 ≡ at / (16 * n) * 16 = omega arith in
        ap (λ (k : ℕ). (k - 16) % 16) quotient ∙ ap (λ (k : ℕ). k % 16) e ∙ mul-mod_left (at / (16 * n)) 16

    pub row_fits : at + m ≤ n * n → (at + m) / n - 16 + 16 ≤ n
    row_fits l =
        let u : (at + m) / n ≤ n = div-le_of_le-mul n l in
        omega (arith, quotient)

pub halves : (n : ℕ) → n % 16 ≡ 0 → 2 * (n / 2) ≡ n
halves n e =
    let d : n ≡ n / 16 * 8 * 2 = omega arith in
    let h : n / 2 ≡ n / 16 * 8 = ap (λ (k : ℕ). k / 2) d ∙ mul-div_cancel (n / 16 * 8) (omega arith) in
    ap (λ (k : ℕ). 2 * k) h ∙ sym (d ∙ omega arith)

pub whole-blocks : (n : ℕ) → 0 < n → n % 16 ≡ 0 → n * n / (16 * n) * (16 * n) ≡ n * n
whole-blocks n o e =
    let d : n ≡ n / 16 * 16 = omega arith in
    let f : n * n ≡ n / 16 * (16 * n) = ap (λ (k : ℕ). k * n) d ∙ omega arith in
    let w : 0 < 16 * n = omega arith in
    ap (λ (k : ℕ). k / (16 * n) * (16 * n)) f ∙ ap (λ (k : ℕ). k * (16 * n)) (mul-div_cancel (n / 16) w) ∙ sym f
