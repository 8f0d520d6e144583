-- `matrix::left_on` meets its contract.
use Rattle.lists.proofs.Kit.{arith}
use Rattle.matrix.proofs.{Whole.left_is}
use Rattle.matrix.proofs.left_on.Goals as goal

pub returns-clause-out_value : goal.returns-clause-out_value
returns-clause-out_value c = λ b. left_is 65536 (omega arith) c.requires.shape.0.whole c.args.e.now c.requires.shape.0
    c.words.ensures c.requires.shape.1 c.words-2.ensures (c.left_rows-at.ensures.sums_value b) c.reduce.ensures
