-- `numbers::negate64` meets its contract.
use mathlib.Core.Path.{◌∙◌, ap}
use Rattle.numbers.specs.Residue.{residue}
use Rattle.numbers.proofs.{Machine.turned-fits, Machine.turned, Machine.turned_lt}
use Rattle.numbers.proofs.negate64.Goals as goal

pub overflow_sub-x : goal.overflow_sub-x
overflow_sub-x c = turned-fits _ _ c.ranges.x c.requires.0 c.requires.1

pub residue64-requires : goal.residue64-requires
residue64-requires c = (turned_lt _ _ c.ranges.x c.requires.0 c.requires.1, c.requires.1)

pub returns : goal.returns
returns c = c.residue64.ensures ∙ ap (residue c.args.q) (turned _ _ c.ranges.x c.requires.0 c.requires.1)
