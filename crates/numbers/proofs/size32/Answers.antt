-- `numbers::size32` meets its contract.
use native.Mathlib.Omega.{arith}
use lib.Signed.{nat_abs-le}
use mir.{Syntax.w32, Facts.to_z-of_z}
use Rattle.numbers.proofs.{Machine.lift-fits, Machine.turn-fits, Machine.turn_is, Machine.size-some, Machine.not-below-zero}
use Rattle.numbers.proofs.size32.Goals as goal

pub overflow_add-result : goal.overflow_add-result
overflow_add-result c = lift-fits w32 _ c.ranges.x c.if-x-lt0.true

pub overflow_sub-result : goal.overflow_sub-result
overflow_sub-result c = turn-fits w32 _ c.ranges.x c.if-x-lt0.true

pub overflow_cast-result : goal.overflow_cast-result
overflow_cast-result c =
    rw (turn_is w32 _ c.ranges.x c.if-x-lt0.true) (tt, record { fits = omega (arith, nat_abs-le c.args.x c.ranges.x.sfits) })

pub overflow_add-result-then-x-lt0 : goal.overflow_add-result-then-x-lt0
overflow_add-result-then-x-lt0 c =
    rw (turn_is w32 _ c.ranges.x c.if-x-lt0.true) (record { fits = omega (arith, nat_abs-le c.args.x c.ranges.x.sfits) })

pub overflow_cast-result-else-x-lt0 : goal.overflow_cast-result-else-x-lt0
overflow_cast-result-else-x-lt0 c =
    (not-below-zero w32 c.args.x c.if-x-lt0.false, rw (to_z-of_z c.ranges.x) (record { fits = omega (arith, nat_abs-le c.args.x c.ranges.x.sfits) }))

pub returns-then-x-lt0 : goal.returns-then-x-lt0
returns-then-x-lt0 c = rw (turn_is w32 _ c.ranges.x c.if-x-lt0.true) (omega (arith, size-some w32 _ c.ranges.x c.if-x-lt0.true))
