-- `bcns_noise::first_not_above` meets its contract.
use Rattle.bcns_noise.proofs.Table.{Searched}
use Rattle.bcns_noise.proofs.first_not_above.Given as goal

abbrev pub invariant-loop-k : goal.invariant-loop-k
invariant-loop-k l = Searched l.table l.k
