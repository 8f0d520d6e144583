-- `numbers::residue_folded` meets its contract.
use mathlib.Core.Path.{◌∙◌}
use Rattle.numbers.proofs.{Lifted.sum_fits, Lifted.sum-high, Lifted.sum-rest}
use Rattle.numbers.proofs.residue_folded.Goals as goal

pub returns : goal.returns
returns c = c.fold.ensures ∙ sum-rest _ c.ranges.x c.requires

pub overflow_add-x : goal.overflow_add-x
overflow_add-x c = sum_fits _ c.ranges.x c.requires

pub overflow_cast-x : goal.overflow_cast-x
overflow_cast-x c = sum-high _ c.ranges.x c.requires
