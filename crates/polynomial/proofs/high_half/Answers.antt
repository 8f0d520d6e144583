-- `polynomial::high_half` meets its contract.
use Rattle.lists.proofs.Kit.{◌/◌, arith}
use Rattle.polynomial.specs.Steps.{upper}
use Rattle.polynomial.proofs.{Halves.narrow}
use Rattle.polynomial.proofs.high_half.Goals as goal

pub returns : goal.returns
returns c = unfold upper in narrow (c.args.y / 65536) (omega arith)
