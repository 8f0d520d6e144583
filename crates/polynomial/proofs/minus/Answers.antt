-- `polynomial::minus` meets its contract.
use Rattle.polynomial.proofs.{Halves.minus_is}
use Rattle.polynomial.proofs.minus.Goals as goal

pub returns : goal.returns
returns c = (minus_is c.args.q c.args.x c.args.y c.requires.0 c.requires.1).2
