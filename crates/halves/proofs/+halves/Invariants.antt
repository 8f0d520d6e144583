-- `halves::halves` ends: the length falls at each call of itself.
use Rattle.halves.proofs.+halves.Given as goal

abbrev pub decreases-halves : goal.decreases-halves
decreases-halves l = l.n
