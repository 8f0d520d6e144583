-- `newhope::hints` meets its contract: it writes the four places of each group.
use Rattle.newhope.proofs.Groups.{hint-at}
use Rattle.newhope.proofs.{Spread.Spread}
use Rattle.newhope.proofs.hints.Given as goal

abbrev pub invariant-loop-i : goal.invariant-loop-i
invariant-loop-i l = Spread (hint-at l.coins l.v) l.out l.i
