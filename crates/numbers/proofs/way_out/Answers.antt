-- `numbers::way_out` meets its contract: each test is a factor 0 or 1.
use mathlib.{Core.Path.◌≡◌, Core.Path.refl, Core.Path.◌∙◌, Core.Path.ap, Core.Bool.Bool, Core.Bool.true, Core.Bool.false}
use Prim.Native.Nat.{ℕ, ◌+◌, ◌*◌, ◌-◌, ◌≤◌, min}
use native.Mathlib.Omega.{arith}
use lib.Dec.{ltb}
use mir.Val.{bool_byte}
use borrow.{Author.Tests.ltb-true, Author.Tests.ltb-false}
use Rattle.numbers.proofs.way_out.Goals as goal

byte : (b : Bool) → bool_byte b ≤ 1
byte true = omega arith
byte false = omega arith

part : (x : ℕ) (b : Bool) → x * bool_byte b ≤ x
part x true = omega arith
part x false = omega arith

module _ (y n : ℕ) where
  under : (b : Bool) → ltb y n ≡ b → y * bool_byte b ≤ n
  under true e = let l = ltb-true y n e in omega arith
  under false e = omega arith

  ahead : (b : Bool) → ltb y n ≡ b → (n - y * bool_byte b) * bool_byte b ≡ n - y
  ahead true e = omega arith
  ahead false e = let l = ltb-false y n e in omega arith

pick : (x a : ℕ) (b : Bool) → ltb x a ≡ b → x * bool_byte b + a * (1 - bool_byte b) ≡ min x a
pick x a true e = let l = ltb-true x a e in omega arith
pick x a false e = let l = ltb-false x a e in omega arith

pub overflow_mul-ahead : goal.overflow_mul-ahead
overflow_mul-ahead c = record { fits = omega (arith, part c.args.y (ltb c.args.y c.args.n)) }

pub overflow_sub-ahead : goal.overflow_sub-ahead
overflow_sub-ahead c = under c.args.y c.args.n (ltb c.args.y c.args.n) refl

pub overflow_mul-ahead-2 : goal.overflow_mul-ahead-2
overflow_mul-ahead-2 c = record { fits = omega (arith, ahead c.args.y c.args.n (ltb c.args.y c.args.n) refl) }

-- what is ahead, as the code has it, and the second test
abbrev rest : ℕ → ℕ → ℕ
rest y n = (n - y * bool_byte (ltb y n)) * bool_byte (ltb y n)

abbrev test : ℕ → ℕ → Bool
test y n = ltb (y + 1) (rest y n)

pub overflow_mul-result : goal.overflow_mul-result
overflow_mul-result c = record { fits = omega (arith, part (c.args.y + 1) (test c.args.y c.args.n)) }

picked : (y n : ℕ) → (y + 1) * bool_byte (test y n) + rest y n * (1 - bool_byte (test y n)) ≡ min (y + 1) (n - y)
picked y n = pick (y + 1) (rest y n) (test y n) refl ∙ ap (min (y + 1)) (ahead y n (ltb y n) refl)

pub overflow_mul-result-2 : goal.overflow_mul-result-2
overflow_mul-result-2 c = record { fits = omega (arith, picked c.args.y c.args.n) }

pub overflow_add-result-2 : goal.overflow_add-result-2
overflow_add-result-2 c = record { fits = omega (arith, picked c.args.y c.args.n) }

pub overflow_sub-result : goal.overflow_sub-result
overflow_sub-result c = byte (test c.args.y c.args.n)

pub returns : goal.returns
returns c = picked c.args.y c.args.n
