-- `polynomial::windows` ends: the length falls at each call of itself.
use Rattle.polynomial.proofs.+windows.Given as goal

abbrev pub decreases-windows : goal.decreases-windows
decreases-windows l = l.n
