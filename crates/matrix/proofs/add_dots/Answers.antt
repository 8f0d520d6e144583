-- `matrix::add_dots` meets its contract.
use Rattle.matrix.specs.Steps.{dot_term}
use Rattle.matrix.proofs.{Steps.on-zeros}
use Rattle.matrix.proofs.add_dots.Goals as goal

pub returns : goal.returns
returns c =
    on-zeros 65536 c.args.n 8 (dot_term c.args.n c.args.row.now c.args.cols.now) c.args.sums.now c.requires.2 c.dots_by.ensures c.add_words.ensures
