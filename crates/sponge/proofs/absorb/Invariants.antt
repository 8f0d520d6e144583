-- `sponge::absorb` meets its contract: whole blocks of the message, then the last one.
use Rattle.sponge.proofs.Absorbing.{Absorbed}
use Rattle.sponge.proofs.absorb.Given as goal

abbrev pub invariant-loop-j : goal.invariant-loop-j
invariant-loop-j l = Absorbed l.rate l.suffix l.input l.s l.j
