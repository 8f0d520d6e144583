-- `polynomial::lay_halves` meets its contract.
use Rattle.polynomial.proofs.{Level.Halving}
use Rattle.polynomial.proofs.lay_halves.Given as goal

abbrev pub invariant-loop-i : goal.invariant-loop-i
invariant-loop-i l = Halving l.q l.n l.d l.initial.t l.t l.i
