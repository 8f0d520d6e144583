-- `bcns_noise::lay` meets its contract: row by row.
use Rattle.bcns_noise.specs.Limbs.{LimbRows}
use Rattle.bcns_noise.proofs.lay.Given as goal

abbrev pub invariant-loop-i : goal.invariant-loop-i
invariant-loop-i l = LimbRows l.table l.i l.t
