-- `polynomial::low_half` meets its contract.
use Rattle.lists.proofs.Kit.{◌%◌, arith}
use Rattle.polynomial.specs.Steps.{lower}
use Rattle.polynomial.proofs.{Halves.narrow}
use Rattle.polynomial.proofs.low_half.Goals as goal

pub returns : goal.returns
returns c = unfold lower in narrow (c.args.y % 65536) (omega arith)
