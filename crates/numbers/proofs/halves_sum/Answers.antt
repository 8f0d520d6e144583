-- `numbers::halves_sum` meets its contract.
use mathlib.Core.Path.{ap}
use Prim.Native.Nat.{ℕ, ◌+◌, ◌/◌}
use native.Mathlib.Omega.{arith}
use lib.Bits.{and_mask, mask_lt}
use Rattle.numbers.proofs.halves_sum.Goals as goal

pub returns : goal.returns
returns c = ap (λ (n : ℕ). c.args.x / 4294967296 + n) (and_mask c.args.x 32)

pub overflow_add-result : goal.overflow_add-result
overflow_add-result c = omega (arith, mask_lt c.args.x 32)
