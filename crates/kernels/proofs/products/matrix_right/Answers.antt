-- `kernels::matrix_right` meets its contract: the numbers are below q.
use Rattle.kernels.proofs.products.matrix_right.Goals as goal

pub returns : goal.returns
returns c =
    c.mix_right.ensures.1 c.requires.fit.0.xs-below
