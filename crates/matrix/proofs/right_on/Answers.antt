-- `matrix::right_on` meets its contract.
use Rattle.lists.proofs.Kit.{arith}
use Rattle.matrix.proofs.{Whole.right_is}
use Rattle.matrix.proofs.right_on.Goals as goal

pub returns-clause-out_value : goal.returns-clause-out_value
returns-clause-out_value c = λ b. right_is 65536 (omega arith) c.requires.shape.0.whole c.args.e.now c.requires.shape.0
    c.columns.ensures c.requires.shape.1 c.words.ensures (c.right_rows-at.ensures.sums_value b) c.reduce.ensures
