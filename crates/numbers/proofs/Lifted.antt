-- A signed number, brought above zero by 2^30 times 2^32 - 1 before it is folded (02b).
--   above, lifted x      that multiple, and the sum
--   sum_fits, sum-high   the machine's sum fits, and is not below 0
--   sum-rest             it has the remainder of x
use mathlib.Core.Path.{◌≡◌, refl, ◌∙◌, sym, ap, subst}
use Prim.Native.Nat.{ℕ, suc, ◌+◌, ◌*◌, ◌-◌, ◌/◌, ◌%◌, ◌^◌, ◌≤◌, ◌<◌}
use native.{Mathlib.Omega.arith, Mathlib.Nat.mod-lt}
use lib.{Dec.T, IntN.ℤ, IntN.pos, IntN.negsuc, IntN.nat_abs, IntN.◌+ℤ◌, Signed.non_neg}
use mir.{Syntax.w64, Val.Fits, Val.SFits, Val.to_z, Val.of_z, Facts.to_z-of_z}
use Rattle.numbers.specs.{Residue.residue, Congruence.◌≅⟨◌⟩◌}
use Rattle.numbers.proofs.Congruence.{eq-≅, ◌⨾◌, mod-≅, residue-is}
use Rattle.numbers.proofs.{Difference.diff-ge, Difference.negsuc-add, Machine.pos-cast}

abbrev above : ℕ
above = 1073741824 * 4294967295

unfoldable lifted : ℤ → ℕ
lifted (pos n) = n + above
lifted (negsuc n) = above - suc n

lifted-lt : (x : ℤ) → nat_abs x ≤ 2 ^ 61 → lifted x < 2 ^ 63
unfolding lifted
lifted-lt (pos n) h = omega arith
lifted-lt (negsuc n) h = omega arith

lifted-is : (x : ℤ) → nat_abs x ≤ 2 ^ 61 → x +ℤ pos above ≡ pos (lifted x)
unfolding lifted
lifted-is (pos n) h = refl
lifted-is (negsuc n) h = negsuc-add n above ∙ diff-ge above (suc n) (omega arith)

multiple : (x : ℤ) → x +ℤ pos above ≅⟨ 4294967295 ⟩ x
multiple x = record { times = pos (above / 4294967295); equal = refl }

module _ (x : ℤ) (f : SFits w64 x) (h : nat_abs x ≤ 2 ^ 61) where
  lifted-rest : lifted x % 4294967295 ≡ residue 4294967295 x
  lifted-rest = residue-is (mod-lt (lifted x) (omega arith)) (mod-≅ 4294967295 (lifted x) ⨾ eq-≅ (sym (lifted-is x h)) ⨾ multiple x)

  sum_is : to_z w64 (of_z w64 x) +ℤ pos above ≡ pos (lifted x)
  sum_is = ap (λ (y : ℤ). y +ℤ pos above) (to_z-of_z f) ∙ lifted-is x h

  pub sum_fits : SFits w64 (to_z w64 (of_z w64 x) +ℤ pos above)
  sum_fits = subst (SFits w64) (sym sum_is) (record { sfits = lifted-lt x h })

  abbrev sum : ℤ
  sum = to_z w64 (of_z w64 (to_z w64 (of_z w64 x) +ℤ pos above))

  sum-read : sum ≡ pos (lifted x)
  sum-read = to_z-of_z sum_fits ∙ sum_is

  pub sum-high : T (non_neg sum) × Fits w64 (nat_abs sum)
  sum-high = pos-cast w64 sum-read (omega (arith, lifted-lt x h))

  pub sum-rest : nat_abs sum % 4294967295 ≡ residue 4294967295 x
  sum-rest = ap (λ (z : ℤ). nat_abs z % 4294967295) sum-read ∙ lifted-rest
