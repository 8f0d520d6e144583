-- The two 32-bit halves of a number, added: the remainder by 2^32 - 1 stays, for 2^32 leaves 1; twice brings 64 bits to at most 2^32 - 1 (02b).
--   halves x          their sum
--   halves-rest       its remainder is that of x
--   once-le, twice-le   how large it is, and that of it
--   taken-le, folded  twice, and 2^32 - 1 itself turned into 0: the remainder
use mathlib.{Core.Path.◌≡◌, Core.Path.refl, Core.Path.◌∙◌, Core.Path.sym, Core.Path.ap, Core.Bool.Bool, Core.Bool.true, Core.Bool.false}
use Prim.Native.Nat.{ℕ, ◌+◌, ◌*◌, ◌-◌, ◌/◌, ◌%◌, ◌^◌, ◌≤◌, ◌<◌}
use native.{Mathlib.Omega.arith, Mathlib.Nat.div-add-mod, Mathlib.Nat.add-mul-mod_self_left, Mathlib.Nat.mod-eq_of_lt}
use lib.Dec.{leb}
use mir.Val.{bool_byte}
use borrow.Author.Tests.{leb-true, leb-false}

abbrev halves : ℕ → ℕ
halves x = x / 4294967296 + x % 4294967296

halves-rest : (x : ℕ) → halves x % 4294967295 ≡ x % 4294967295
halves-rest x =
    let e : x ≡ halves x + 4294967295 * (x / 4294967296) = omega (arith, div-add-mod x 4294967296) in
    sym (ap (λ (n : ℕ). n % 4294967295) e ∙ add-mul-mod_self_left (halves x) 4294967295 (x / 4294967296))

once-le : (x : ℕ) → x < 2 ^ 64 → halves x ≤ 8589934590
once-le x h = omega arith

twice-le : (x : ℕ) → x ≤ 8589934590 → halves x ≤ 4294967295
twice-le x h = omega arith

whole : (t : ℕ) (b : Bool) → leb 4294967295 t ≡ b → 4294967295 * bool_byte b ≤ t
whole t true e = let l = leb-true 4294967295 t e in omega arith
whole t false e = omega arith

rest : (t : ℕ) → t ≤ 4294967295 → (b : Bool) → leb 4294967295 t ≡ b → t - 4294967295 * bool_byte b ≡ t % 4294967295
rest t h true e =
    let l = leb-true 4294967295 t e in
    let k : t ≡ 4294967295 = omega arith in
    rw k refl
rest t h false e =
    let l = leb-false 4294967295 t e in
    let k : t < 4294967295 = omega arith in
    omega (arith, mod-eq_of_lt k)

module _ (x s t : ℕ) (room : x < 2 ^ 64) (once : s ≡ halves x) (twice : t ≡ halves s) where
  small : t ≤ 4294967295
  small = rw twice (twice-le s (rw once (once-le x room)))

  pub taken-le : 4294967295 * bool_byte (leb 4294967295 t) ≤ t
  taken-le = whole t (leb 4294967295 t) refl

  pub folded : t - 4294967295 * bool_byte (leb 4294967295 t) ≡ x % 4294967295
  folded =
      rest t small (leb 4294967295 t) refl
      ∙ ap (λ (n : ℕ). n % 4294967295) twice
      ∙ halves-rest s
      ∙ ap (λ (n : ℕ). n % 4294967295) once
      ∙ halves-rest x
