-- A number below q as two signed halves of 16 bits.
--   upper-small, lower-small   each half is at most 32768 in size
--   lift-low, lift-high, lift-lt   the number and 2147516416 more, with or without q less: by its size, and below 2^32
--   halves-≅                   65536 upper + lower is the number modulo q
--   minus_is                   x - y modulo q, with q added once where y is above x
--   less-fits, narrow-fits, narrow   a half in the machine: from 16 unsigned bits by way of an i32 to an i16
use Rattle.lists.proofs.Kit.{Bool, true, false, ◌≡◌, refl, ◌∙◌, sym, ap, ap₂, subst, ℕ, ◌+◌, ◌*◌, ◌-◌, ◌/◌, ◌%◌, ◌^◌, ◌≤◌, ◌<◌, arith, ltb, ℤ, pos, nat_abs}
use Rattle.lists.proofs.Kit.{◌+ℤ◌, ◌-ℤ◌, ◌*ℤ◌, dec_lt, div-add-mod, ltb-true, ltb-false, lt-ltb, le-ltb, w16, w32, SFits, to_z, of_z, bool_byte, to_z-of_z}
use Rattle.lists.proofs.Kit.{sfits_widen}
use Rattle.numbers.specs.{Residue.residue, Congruence.◌≅⟨◌⟩◌}
use Rattle.numbers.proofs.Difference.{diff, pos-diff, pos-sub, diff-≡, diff-ge, diff-lt, diffs, diff-add}
use Rattle.numbers.proofs.{Size.abs-difference, Machine.to_z_pos, Congruence.eq-≅, Congruence.◌⨾◌, Congruence.sym-≅, Congruence.residue-is}
use Rattle.polynomial.specs.Steps.{lift, upper, lower}

pub upper-small : (y : ℕ) → y < 2 ^ 32 → nat_abs (upper y) ≤ 32768
unfolding upper
upper-small y h = omega (arith, abs-difference (y / 65536) 32768)

pub lower-small : (y : ℕ) → nat_abs (lower y) ≤ 32768
unfolding lower
lower-small y = omega (arith, abs-difference (y % 65536) 32768)

pub lift-low : (q x : ℕ) → x < 2147450880 → lift q x ≡ x + 2147516416
unfolding lift
lift-low q x h = rw (lt-ltb x 2147450880 h)

pub lift-high : (q x : ℕ) → 2147450880 ≤ x → lift q x ≡ x + 2147516416 - q
unfolding lift
lift-high q x h = rw (le-ltb x 2147450880 h)

pub lift-lt : (q x : ℕ) → x < q → q < 2 ^ 32 → lift q x < 2 ^ 32
lift-lt q x h r = go (dec_lt x 2147450880)
  where
    go : Dec (x < 2147450880) → lift q x < 2 ^ 32
    go (yes p) = omega (arith, lift-low q x p)
    go (no p) = omega (arith, lift-high q x (omega arith))

-- the two halves put together
put : (a b : ℕ) → (pos a -ℤ pos 32768) *ℤ pos 65536 +ℤ (pos b -ℤ pos 32768) ≡ diff (a * 65536 + b) 2147516416
put a b =
    ap₂ (λ (x y : ℤ). x *ℤ pos 65536 +ℤ y) (pos-sub a 32768) (pos-sub b 32768)
    ∙ ap (λ (k : ℤ). diff a 32768 *ℤ k +ℤ diff b 32768) (pos-diff 65536)
    ∙ simp diffs (diff-≡ _ _ _ _ (omega arith))

whole : (y : ℕ) → upper y *ℤ pos 65536 +ℤ lower y ≡ diff y 2147516416
unfolding upper lower
whole y = put (y / 65536) (y % 65536) ∙ ap (λ (k : ℕ). diff k 2147516416) (omega (arith, div-add-mod y 65536))

low-is : (y x : ℕ) → y ≡ x + 2147516416 → diff y 2147516416 ≡ pos x
low-is y x e = diff-≡ y 2147516416 x 0 (omega arith) ∙ sym (pos-diff x)

high_is : (q y x : ℕ) → y + q ≡ x + 2147516416 → pos x ≡ diff y 2147516416 +ℤ pos (1 * q)
high_is q y x e =
    pos-diff x
    ∙ diff-≡ x 0 (y + 1 * q) (2147516416 + 0) (omega arith)
    ∙ sym (diff-add y 2147516416 (1 * q) 0)
    ∙ ap (λ (z : ℤ). diff y 2147516416 +ℤ z) (sym (pos-diff (1 * q)))

pub halves-≅ : (q x : ℕ) → x < q → q < 2 ^ 32 → upper (lift q x) *ℤ pos 65536 +ℤ lower (lift q x) ≅⟨ q ⟩ pos x
halves-≅ q x h r = eq-≅ (whole (lift q x)) ⨾ go (dec_lt x 2147450880)
  where
    go : Dec (x < 2147450880) → diff (lift q x) 2147516416 ≅⟨ q ⟩ pos x
    go (yes p) = eq-≅ (low-is (lift q x) x (lift-low q x p))
    go (no p) = sym-≅ (record { times = pos 1; equal = high_is q (lift q x) x (omega (arith, lift-high q x (omega arith))) })

-- ---- numbers below q

-- x - y, with q added once where y is above x
minus-under : (q x y : ℕ) → x < q → y < q → x < y → x + (q - y) ≡ residue q (pos x -ℤ pos y)
minus-under q x y h k l =
    residue-is (omega arith) (record { times = pos 1; equal = pos-diff (x + (q - y)) ∙ diff-≡ _ _ (x + 1 * q) (y + 0) (omega arith) ∙ sym (ap₂ (λ (a b : ℤ). a +ℤ b) (pos-sub x y) (pos-diff (1 * q)) ∙ diff-add x y (1 * q) 0) })

minus-over : (q x y : ℕ) → x < q → y ≤ x → x - y ≡ residue q (pos x -ℤ pos y)
minus-over q x y h l = residue-is (omega arith) (eq-≅ (sym (pos-sub x y ∙ diff-ge x y l)))

module _ (q x y : ℕ) (hx : x < q) (hy : y < q) where
  by-test : (b : Bool) → ltb x y ≡ b → (q * bool_byte b ≤ q) × (y ≤ x + q * bool_byte b) × (x + q * bool_byte b - y ≡ residue q (pos x -ℤ pos y))
  by-test true e =
      let l = ltb-true x y e in
      let k : x + q * 1 - y ≡ x + (q - y) = omega arith in
      (omega arith, omega arith, k ∙ minus-under q x y hx hy l)
  by-test false e =
      let l = ltb-false x y e in
      let k : x + q * 0 - y ≡ x - y = omega arith in
      (omega arith, omega arith, k ∙ minus-over q x y hx l)

  pub minus_is : (q * bool_byte (ltb x y) ≤ q) × (y ≤ x + q * bool_byte (ltb x y)) × (x + q * bool_byte (ltb x y) - y ≡ residue q (pos x -ℤ pos y))
  minus_is = by-test (ltb x y) refl

-- ---- a half in the machine

module _ (n : ℕ) (h : n < 65536) where
  less-is : to_z w32 n -ℤ pos 32768 ≡ pos n -ℤ pos 32768
  less-is = ap (λ (z : ℤ). z -ℤ pos 32768) (to_z_pos w32 n (omega arith))

  half-fits : SFits w16 (pos n -ℤ pos 32768)
  half-fits = go (dec_lt n 32768)
    where
      go : Dec (n < 32768) → SFits w16 (pos n -ℤ pos 32768)
      go (yes p) = subst (SFits w16) (sym (pos-sub n 32768 ∙ diff-lt n 32768 p)) (record { sfits = omega arith })
      go (no p) = subst (SFits w16) (sym (pos-sub n 32768 ∙ diff-ge n 32768 (omega arith))) (record { sfits = omega arith })

  pub less-fits : SFits w32 (to_z w32 n -ℤ pos 32768)
  less-fits = subst (SFits w32) (sym less-is) (sfits_widen tt half-fits)

  read : to_z w32 (of_z w32 (to_z w32 n -ℤ pos 32768)) ≡ pos n -ℤ pos 32768
  read = to_z-of_z less-fits ∙ less-is

  pub narrow-fits : SFits w16 (to_z w32 (of_z w32 (to_z w32 n -ℤ pos 32768)))
  narrow-fits = subst (SFits w16) (sym read) half-fits

  pub narrow : to_z w16 (of_z w16 (to_z w32 (of_z w32 (to_z w32 n -ℤ pos 32768)))) ≡ pos n -ℤ pos 32768
  narrow = to_z-of_z narrow-fits ∙ read
