-- `line::show_bcns` meets its contract.
use Rattle.lists.proofs.Kit.{arith}
use Rattle.bcns.proofs.Regions.{hint-below}
use Rattle.line.specs.Line.{bcns_shown}
use Rattle.line.proofs.show_bcns.Goals as goal

pub peer-requires : goal.peer-requires
peer-requires c = omega (arith, c.hint-hint.ensures, hint-below c.double-z.result)

pub returns : goal.returns
returns c = unfold bcns_shown in cc
