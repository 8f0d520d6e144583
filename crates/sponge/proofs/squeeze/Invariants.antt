-- `sponge::squeeze` meets its contract: whole blocks of the output, then the last one.
use Rattle.sponge.proofs.Squeezing.{Squeezed}
use Rattle.sponge.proofs.squeeze.Given as goal

abbrev pub invariant-loop-j : goal.invariant-loop-j
invariant-loop-j l = Squeezed l.rate l.initial.t l.initial.out l.out l.t l.j
