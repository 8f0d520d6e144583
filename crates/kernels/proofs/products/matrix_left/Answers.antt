-- `kernels::matrix_left` meets its contract: the numbers are below q.
use Rattle.kernels.proofs.products.matrix_left.Goals as goal

pub returns : goal.returns
returns c =
    c.mix_left.ensures.1 c.requires.fit.0.xs-below
