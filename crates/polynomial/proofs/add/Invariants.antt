-- `polynomial::add` meets its contract.
use Rattle.polynomial.specs.Steps.{Summed}
use Rattle.polynomial.proofs.add.Given as goal

abbrev pub invariant-loop-k : goal.invariant-loop-k
invariant-loop-k g l = Summed g.T.Add.add_gives l.initial.w l.to l.x l.k l.w
