-- `matrix::multiply` meets its contract: XS + E where the noise is zeros.
use Rattle.matrix.proofs.{Whole.bare-is}
use Rattle.matrix.proofs.multiply.Goals as goal

pub returns : goal.returns
returns c =
    bare-is c.args.q c.args.n c.args.u.now c.args.s.now (c.right_on.ensures.out_value c.requires.0.xs-below)
