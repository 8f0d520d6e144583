-- `numbers::residue32` meets its contract.
use mathlib.Core.Path.{ap}
use native.Mathlib.Omega.{arith}
use lib.IntN.{nat_abs}
use mir.Syntax.{w32}
use Rattle.numbers.proofs.Machine.{Rem, pos-cast, quot_fits, rest_lt, up_fits, cut_up, cut-stay}
use Rattle.numbers.proofs.residue32.Goals as goal
use Rattle.numbers.proofs.residue32.Goals.{Start}

rem : (c : Start) → Rem w32 c.args.x c.args.q
rem c = record { fits = c.ranges.x; room = omega arith; some = c.requires.0 }

pub overflow_add-result : goal.overflow_add-result
overflow_add-result c = up_fits w32 _ _ (rem (goal.at.overflow_add-result c).Start) c.if-r-lt0.true

pub overflow_cast-result-then-r-lt0 : goal.overflow_cast-result-then-r-lt0
overflow_cast-result-then-r-lt0 c = let r = rem (goal.at.overflow_cast-result-then-r-lt0 c).Start in pos-cast w32 (cut_up w32 _ _ r c.if-r-lt0.true) (omega (arith, rest_lt w32 _ _ r))

pub overflow_cast-result-else-r-lt0 : goal.overflow_cast-result-else-r-lt0
overflow_cast-result-else-r-lt0 c = let r = rem (goal.at.overflow_cast-result-else-r-lt0 c).Start in pos-cast w32 (cut-stay w32 _ _ r c.if-r-lt0.false) (omega (arith, rest_lt w32 _ _ r))

pub returns-then-r-lt0 : goal.returns-then-r-lt0
returns-then-r-lt0 c = ap nat_abs (cut_up w32 _ _ (rem (goal.at.returns-then-r-lt0 c).Start) c.if-r-lt0.true)

pub returns-else-r-lt0 : goal.returns-else-r-lt0
returns-else-r-lt0 c = ap nat_abs (cut-stay w32 _ _ (rem (goal.at.returns-else-r-lt0 c).Start) c.if-r-lt0.false)

pub nonzero_rem-r : goal.nonzero_rem-r
nonzero_rem-r c = (c.requires.0, quot_fits w32 _ _ (rem (goal.at.nonzero_rem-r c).Start))
