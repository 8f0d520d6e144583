-- `newhope::hints` meets its contract: it writes the four places of each group.
use Rattle.lists.proofs.Kit.{arith}
use Rattle.newhope.proofs.Groups.{hints-next, hints-end}
use Rattle.newhope.proofs.hints.Goals as goal

pub loop-i-preserved : goal.loop-i-preserved
loop-i-preserved c =
    hints-next _ _ c.loop-i.invariant (omega arith) c.group.ensures c.hint-h.ensures.0
    c.place.ensures.0 c.place-in-loop-i.ensures.0 c.place-in-loop-i-2.ensures.0 c.place-in-loop-i-3.ensures.0

pub returns : goal.returns
returns c = hints-end _ _ c.loop-i.invariant (omega arith)
