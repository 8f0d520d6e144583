-- `line::show_frodo` meets its contract.
use Rattle.lists.proofs.Kit.{arith}
use Rattle.frodo.proofs.Rule.{hint-below}
use Rattle.line.specs.Line.{frodo_shown}
use Rattle.line.proofs.show_frodo.Goals as goal

pub peer-requires : goal.peer-requires
peer-requires c =
    (c.requires.0, omega (arith, c.hint-hint.ensures, hint-below c.args.i c.args.v), c.requires.2)

pub returns : goal.returns
returns c = unfold frodo_shown in cc
