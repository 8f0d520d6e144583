-- `matrix::remainder` meets its contract.
use Rattle.lists.proofs.Kit.{arith}
use Rattle.matrix.proofs.{Quotient.back}
use Rattle.matrix.proofs.remainder.Goals as goal

pub returns : goal.returns
returns c = back c.args.q c.args.c c.args.u c.requires.0 (omega arith) c.requires.1 c.requires.2
