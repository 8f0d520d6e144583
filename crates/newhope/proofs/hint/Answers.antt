-- `newhope::hint` meets its contract.
use Rattle.newhope.proofs.{Parts.hint-is, Parts.ranged}
use Rattle.newhope.proofs.hint.Goals as goal

pub returns : goal.returns
returns c =
    ranged _ _
    (hint-is _ _ c.offs-s.ensures
    c.pick-p0.ensures.0
    c.pick-p1.ensures.0
    c.pick-p2.ensures.0
    c.pick-p3.ensures.0
    c.side-k.ensures.0
    c.less.ensures
    c.less-2.ensures
    c.less-3.ensures)
