-- `bcns::double` meets its contract: 2q + 2v - c is not below 0, and that, or 2q less, is z.
use Rattle.lists.proofs.Kit.{refl, ◌∙◌, sym, ap, subst, Bool, true, false, ℕ, suc, arith, T, leb, ℤ, pos, negsuc, nat_abs}
use Rattle.std.proofs.Common.{◌≡◌, ◌+◌, ◌*◌, ◌-◌, ◌^◌, ◌≤◌, ◌<◌, ◌-ℤ◌}
use Rattle.lists.proofs.Kit.{w64, Fits, SFits, to_z, of_z, bool_byte, to_z-of_z, leb-true, leb-false}
use lib.Signed.{non_neg}
use Rattle.numbers.specs.{Residue.residue, Congruence.◌≅⟨◌⟩◌}
use Rattle.numbers.proofs.Congruence.{eq-≅, refl-≅, ◌⨾◌, sub-≅, multiples-≅, residue-is}
use Rattle.numbers.proofs.{Difference.pos-sub, Difference.diff-ge, Modular.more-≅, Machine.fits-abs, Machine.to_z_pos, Machine.pos-cast}
use Rattle.bcns.specs.Rounding.{q, doubled}
use Rattle.bcns.proofs.{Margin.doubled-below}
use Rattle.bcns.proofs.double.Goals as goal

-- a - k, for a k of at most 1 in size
unfoldable less : ℕ → ℤ → ℕ
less a (pos m) = a - m
less a (negsuc m) = a + suc m

less-is : (a : ℕ) (k : ℤ) → nat_abs k ≤ 1 → 1 ≤ a → pos a -ℤ k ≡ pos (less a k)
unfolding less
less-is a (pos m) s h = pos-sub a m ∙ diff-ge a m (omega arith)
less-is a (negsuc m) s h = refl

less-lt : (a : ℕ) (k : ℤ) → nat_abs k ≤ 1 → less a k ≤ a + 1
unfolding less
less-lt a (pos m) s = omega arith
less-lt a (negsuc m) s = omega arith

room : (b : Bool) → 2 * q * bool_byte b < 2 ^ 64
room true = omega arith
room false = omega arith

-- 2q off, where that leaves 0 or more
off : (n : ℕ) (b : Bool) → leb (2 * q) n ≡ b → 2 * q * bool_byte b ≤ n
off n true e = let l = leb-true (2 * q) n e in omega arith
off n false e = omega arith

rest : (n : ℕ) (x : ℤ) → n < 4 * q → pos n ≅⟨ 2 * q ⟩ x → (b : Bool) → leb (2 * q) n ≡ b → n - 2 * q * bool_byte b ≡ residue (2 * q) x
rest n x h p true e =
    let l = leb-true (2 * q) n e in
    residue-is (omega arith) (multiples-≅ (2 * q) (n - 2 * q * 1) n 1 0 (omega arith) ⨾ p)
rest n x h p false e =
    let l = leb-false (2 * q) n e in
    residue-is (omega arith) (multiples-≅ (2 * q) (n - 2 * q * 0) n 0 0 (omega arith) ⨾ p)

module _ (v : ℕ) (b : v < q) (k : ℤ) (s : nat_abs k ≤ 1) where
  sum_is : to_z w64 (2 * v + 2 * q) -ℤ to_z w64 (of_z w64 k) ≡ pos (less (2 * v + 2 * q) k)
  sum_is = rw (to_z_pos w64 (2 * v + 2 * q) (omega arith), to_z-of_z (fits-abs w64 k (omega arith))) (less-is (2 * v + 2 * q) k s (omega arith))

  sum_fits : SFits w64 (to_z w64 (2 * v + 2 * q) -ℤ to_z w64 (of_z w64 k))
  sum_fits = subst (SFits w64) (sym sum_is) (record { sfits = omega (arith, less-lt (2 * v + 2 * q) k s) })

  abbrev sum : ℤ
  sum = to_z w64 (of_z w64 (to_z w64 (2 * v + 2 * q) -ℤ to_z w64 (of_z w64 k)))

  read : sum ≡ pos (less (2 * v + 2 * q) k)
  read = to_z-of_z sum_fits ∙ sum_is

  sum-high : T (non_neg sum) × Fits w64 (nat_abs sum)
  sum-high = pos-cast w64 read (omega (arith, less-lt (2 * v + 2 * q) k s))

  abbrev taken : ℕ
  taken = 2 * q * bool_byte (leb (2 * q) (nat_abs sum))

  taken-fits : taken < 2 ^ 64
  taken-fits = room (leb (2 * q) (nat_abs sum))

  taken-le : taken ≤ nat_abs sum
  taken-le = off (nat_abs sum) (leb (2 * q) (nat_abs sum)) refl

  same : pos (less (2 * v + 2 * q) k) ≅⟨ 2 * q ⟩ pos (2 * v) -ℤ k
  same = eq-≅ (sym (less-is (2 * v + 2 * q) k s (omega arith))) ⨾ sub-≅ (more-≅ (2 * v) 1) (refl-≅ k)

  z-is : nat_abs sum - taken ≡ residue (2 * q) (pos (2 * v) -ℤ k)
  z-is =
      let n = less (2 * v + 2 * q) k in
      ap (λ (z : ℤ). nat_abs z - 2 * q * bool_byte (leb (2 * q) (nat_abs z))) read
      ∙ rest n (pos (2 * v) -ℤ k) (omega (arith, less-lt (2 * v + 2 * q) k s)) same (leb (2 * q) n) refl

pub overflow_sub-z : goal.overflow_sub-z
overflow_sub-z c = sum_fits c.args.v c.requires c.coin_of.result c.coin_of.ensures.1

pub overflow_cast-z-3 : goal.overflow_cast-z-3
overflow_cast-z-3 c = sum-high c.args.v c.requires c.coin_of.result c.coin_of.ensures.1

pub overflow_mul-result : goal.overflow_mul-result
overflow_mul-result c = record { fits = taken-fits c.args.v c.requires c.coin_of.result c.coin_of.ensures.1 }

pub overflow_sub-result : goal.overflow_sub-result
overflow_sub-result c = taken-le c.args.v c.requires c.coin_of.result c.coin_of.ensures.1

pub returns : goal.returns
unfolding doubled
returns c =
    let e =
    z-is c.args.v c.requires c.coin_of.result c.coin_of.ensures.1
    ∙ ap (λ (z : ℤ). residue (2 * q) (pos (2 * c.args.v) -ℤ z)) c.coin_of.ensures.0 in
    record { value = e; upper_bound = omega (arith, e, doubled-below c.args.coin c.args.v) }
