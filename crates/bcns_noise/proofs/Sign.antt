-- The sign as a factor, 1 - 2 b where b is its bit, as the machine forms it.
--   double-fits, turn-fits, times-fits   no step leaves the 32 bits
--   times                                the product is n with that sign
use Rattle.lists.proofs.Kit.{◌∙◌, sym, ap, subst, cond, ℕ, zero, suc, arith, eqb, ℤ, pos, negsuc, neg_ℤ, w32, SFits, to_z, of_z}
use Rattle.std.proofs.Common.{◌≡◌, ◌*◌, ◌^◌, ◌<◌, ◌-ℤ◌, ◌*ℤ◌}
use Rattle.lists.proofs.Kit.{to_z-of_z}
use Rattle.numbers.proofs.Machine.{fits-abs, to_z_pos}
use Rattle.noise.proofs.Noise.{sign-size}

abbrev turn : ℕ → ℤ
turn b = pos 1 -ℤ to_z w32 (of_z w32 (pos 2 *ℤ to_z w32 b))

pub double-fits : (b : ℕ) → b < 2 → SFits w32 (pos 2 *ℤ to_z w32 b)
double-fits zero h = record { sfits = omega arith }
double-fits (suc zero) h = record { sfits = omega arith }
double-fits (suc (suc b)) h = absurd (omega arith)

pub turn-fits : (b : ℕ) → b < 2 → SFits w32 (turn b)
turn-fits zero h = record { sfits = omega arith }
turn-fits (suc zero) h = record { sfits = omega arith }
turn-fits (suc (suc b)) h = absurd (omega arith)

module _ (n : ℕ) (l : n < 2 ^ 31) where
  times-is : (b : ℕ) → b < 2 → to_z w32 (of_z w32 (turn b)) *ℤ to_z w32 n ≡ cond (eqb b 1) (neg_ℤ (pos n)) (pos n)
  times-is zero h = let e : 1 * n ≡ n = omega arith in ap (λ (z : ℤ). pos 1 *ℤ z) (to_z_pos w32 n l) ∙ ap pos e
  times-is (suc zero) h = let e : 1 * n ≡ n = omega arith in ap (λ (z : ℤ). negsuc 0 *ℤ z) (to_z_pos w32 n l) ∙ ap (λ (k : ℕ). neg_ℤ (pos k)) e
  times-is (suc (suc b)) h = absurd (omega arith)

  pub times-fits : (b : ℕ) → b < 2 → SFits w32 (to_z w32 (of_z w32 (turn b)) *ℤ to_z w32 n)
  times-fits b h = subst (SFits w32) (sym (times-is b h)) (fits-abs w32 _ (omega (arith, sign-size (eqb b 1) n)))

  pub times : (b : ℕ) → b < 2 → to_z w32 (of_z w32 (to_z w32 (of_z w32 (turn b)) *ℤ to_z w32 n)) ≡ cond (eqb b 1) (neg_ℤ (pos n)) (pos n)
  times b h = to_z-of_z (times-fits b h) ∙ times-is b h
