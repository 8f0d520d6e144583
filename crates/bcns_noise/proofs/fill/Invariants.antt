-- `bcns_noise::fill` meets its contract: it fills with the values of the bytes.
use Rattle.lists.proofs.Fill.{Filled}
use Rattle.bcns_noise.specs.Noise.{bcns_value_lem}
use Rattle.bcns_noise.proofs.fill.Given as goal

abbrev pub invariant-loop-i : goal.invariant-loop-i
invariant-loop-i l = Filled (bcns_value_lem l.table l.bytes) l.initial.out l.out l.i
