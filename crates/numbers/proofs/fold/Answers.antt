-- `numbers::fold` meets its contract.
use native.Mathlib.Omega.{arith}
use Rattle.numbers.proofs.{Halves.taken-le, Halves.folded}
use Rattle.numbers.proofs.fold.Goals as goal

pub overflow_mul-result : goal.overflow_mul-result
overflow_mul-result c =
    record { fits = omega (arith, taken-le _ _ _ (omega arith) c.halves_sum-once.ensures c.halves_sum-twice.ensures) }

pub overflow_sub-result : goal.overflow_sub-result
overflow_sub-result c = taken-le c.args.x _ _ (omega arith) c.halves_sum-once.ensures c.halves_sum-twice.ensures

pub returns : goal.returns
returns c = folded c.args.x _ _ (omega arith) c.halves_sum-once.ensures c.halves_sum-twice.ensures
