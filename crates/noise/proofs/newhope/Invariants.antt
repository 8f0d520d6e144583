-- `noise::newhope` meets its contract: it fills with the values of the bytes.
use Rattle.lists.proofs.Fill.{Filled}
use Rattle.noise.specs.Noise.{ones_less_lem}
use Rattle.noise.proofs.newhope.Given as goal

abbrev pub invariant-loop-i : goal.invariant-loop-i
invariant-loop-i l = Filled (ones_less_lem l.bytes) l.initial.out l.out l.i
