-- `schemes::frodo` meets its contract: no length is too long to be one.
use Prim.Native.Nat.{◌*◌, ◌≤◌}
use native.{Mathlib.Nat.mul-le-mul, Mathlib.Omega.arith}
use Rattle.schemes.proofs.frodo.Goals as goal
use Rattle.schemes.proofs.frodo.Goals.{Start}

few : (c : Start) → c.args.n * c.args.width ≤ 12960
few c = mul-le-mul c.requires.0 c.requires.1

pub overflow_mul-packed : goal.overflow_mul-packed
overflow_mul-packed c = omega (arith, few (goal.at.overflow_mul-packed c).Start)

pub overflow_mul-result : goal.overflow_mul-result
overflow_mul-result c = omega (arith, mul-le-mul c.requires.0 c.requires.0)

pub overflow_add-result : goal.overflow_add-result
overflow_add-result c = omega (arith, few (goal.at.overflow_add-result c).Start)

pub overflow_add-result-2 : goal.overflow_add-result-2
overflow_add-result-2 c = omega (arith, few (goal.at.overflow_add-result-2 c).Start)
