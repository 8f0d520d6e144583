-- `numbers::distance32` meets its contract.
use mathlib.Core.Path.{◌∙◌, ap}
use native.Mathlib.Omega.{arith}
use lib.IntN.{nat_abs}
use mir.Syntax.{w32}
use Rattle.numbers.specs.Residue.{distance}
use Rattle.numbers.proofs.{Machine.Rem, Machine.back}
use Rattle.numbers.proofs.distance32.Goals as goal
use Rattle.numbers.proofs.distance32.Goals.{Start}

rem : (c : Start) → Rem w32 c.args.x c.args.q
rem c = record { fits = c.ranges.x; room = omega arith; some = c.requires.0 }

pub returns : goal.returns
unfolding distance
returns c = c.size32.ensures ∙ ap nat_abs (back w32 _ _ (rem (goal.at.returns c).Start) _ c.nearest32.ensures)
