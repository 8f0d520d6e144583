-- `numbers::residue64` meets its contract.
use mathlib.Core.Path.{ap}
use lib.IntN.{nat_abs}
use Rattle.numbers.proofs.{Machine.once-fits, Machine.sum_fits, Machine.added, Machine.added-cast}
use Rattle.numbers.proofs.residue64.Goals as goal

pub overflow_mul-result : goal.overflow_mul-result
overflow_mul-result c = once-fits _ _ c.ranges.x c.requires.0 c.requires.1

pub overflow_add-result : goal.overflow_add-result
overflow_add-result c = sum_fits _ _ c.ranges.x c.requires.0 c.requires.1

pub overflow_cast-result-3 : goal.overflow_cast-result-3
overflow_cast-result-3 c = added-cast _ _ c.ranges.x c.requires.0 c.requires.1

pub returns : goal.returns
returns c = ap nat_abs (added _ _ c.ranges.x c.requires.0 c.requires.1)
