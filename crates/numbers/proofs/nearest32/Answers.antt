-- `numbers::nearest32` meets its contract.
use native.Mathlib.Omega.{arith}
use mir.Syntax.{w32}
use Rattle.numbers.proofs.{Machine.Rem, Machine.rest-room, Machine.low, Machine.high_fits, Machine.high}
use Rattle.numbers.proofs.nearest32.Goals as goal
use Rattle.numbers.proofs.nearest32.Goals.{Start}

rem : (c : Start) → Rem w32 c.args.x c.args.q
rem c = record { fits = c.ranges.x; room = omega arith; some = c.requires.0 }

pub overflow_mul-m : goal.overflow_mul-m
overflow_mul-m c = record { fits = omega (arith, rest-room w32 _ _ (rem (goal.at.overflow_mul-m c).Start) _ c.residue32-m.ensures) }

pub overflow_cast-result-else-m-q : goal.overflow_cast-result-else-m-q
overflow_cast-result-else-m-q c = record { sfits = omega (arith, rest-room w32 _ _ (rem (goal.at.overflow_cast-result-else-m-q c).Start) _ c.residue32-m.ensures) }

pub overflow_sub-result : goal.overflow_sub-result
overflow_sub-result c = high_fits w32 _ _ (rem (goal.at.overflow_sub-result c).Start) _ c.residue32-m.ensures c.if-m-q.false

pub returns-then-m-q : goal.returns-then-m-q
returns-then-m-q c = low w32 _ _ (rem (goal.at.returns-then-m-q c).Start) _ c.residue32-m.ensures c.if-m-q.true

pub returns-else-m-q : goal.returns-else-m-q
returns-else-m-q c = high w32 _ _ (rem (goal.at.returns-else-m-q c).Start) _ c.residue32-m.ensures c.if-m-q.false
