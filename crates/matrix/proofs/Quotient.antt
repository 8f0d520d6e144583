-- The remainder without a division: q divides 65536, k times. Of u k, modulo 65536, is left the remainder of u, k times.
--   kept        so it is with k modulo 65536, as a word has it
--   back        and q times that, by 65536, is the remainder
--   back_fits   so it fits a word
use Rattle.lists.proofs.Kit.{◌∙◌, sym, ap, ℕ, suc, arith, div-add-mod', mod-lt, mul-div_cancel, mul-le-mul_right}
use Rattle.std.proofs.Common.{◌≡◌, ◌+◌, ◌*◌, ◌/◌, ◌%◌, ◌<◌, ◌≤◌}
use Rattle.lists.proofs.Kit.{le-div_iff_mul-le, digits_mod}
use native.Mathlib.Nat.{add-mul-mod_self_right}

module _ (q c u : ℕ) (some : 0 < q) (few : q < 65536) (whole : 65536 % q ≡ 0) (is : c ≡ 65536 / q % 65536) where
  abbrev k : ℕ
  k = 65536 / q

  all : k * q ≡ 65536
  all = omega (arith, div-add-mod' 65536 q)

  k-some : 1 ≤ k
  k-some = let h : 1 * q ≤ 65536 = omega arith in (le-div_iff_mul-le some).1 h

  small : u % q * k < 65536
  small = let h : suc (u % q) * k ≤ q * k = mul-le-mul_right k (mod-lt u some) in omega (arith, h, all, k-some)

  pub kept : u * c % 65536 ≡ u % q * k
  kept =
      let e : u * k ≡ u * c + u * (k / 65536) * 65536 = ap (λ (x : ℕ). u * x) (sym (div-add-mod' k 65536)) ∙ rw is (omega arith) in
      let f : u * k ≡ u / q * (k * q) + u % q * k = ap (λ (x : ℕ). x * k) (sym (div-add-mod' u q)) ∙ omega arith in
      sym (ap (λ (x : ℕ). x % 65536) e ∙ add-mul-mod_self_right (u * c) (u * (k / 65536)) 65536)
      ∙ ap (λ (x : ℕ). x % 65536) (f ∙ ap (λ (x : ℕ). u / q * x + u % q * k) all)
      ∙ digits_mod (u / q) small

  whole-times : u * c % 65536 * q ≡ u % q * 65536
  whole-times = ap (λ (x : ℕ). x * q) kept ∙ omega arith ∙ ap (λ (x : ℕ). u % q * x) all

  pub back : u * c % 65536 * q / 65536 ≡ u % q
  back = ap (λ (x : ℕ). x / 65536) whole-times ∙ mul-div_cancel (u % q) (omega arith)

  pub back_fits : u * c % 65536 * q / 65536 < 65536
  back_fits = rw back (omega (arith, mod-lt u some))
