-- `matrix::eight_on` meets its contract.
use Rattle.lists.proofs.Kit.{arith}
use Rattle.matrix.proofs.{Terms.eight-terms, Whole.left_is}
use Rattle.matrix.proofs.eight_on.Goals as goal

pub returns : goal.returns
returns c =
    let g = c.args in
    let f = c.requires.fit.0.shape in
    left_is 65536 (omega arith) f.whole g.e.now f c.words.ensures c.requires.fit.1
    c.words-2.ensures
    (eight-terms 65536 g.n _ g.y.now _ c.turn.ensures c.add_right.ensures)
    c.reduce.ensures
