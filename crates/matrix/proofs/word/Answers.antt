-- `matrix::word` meets its contract.
use Rattle.lists.proofs.Kit.{arith}
use Rattle.numbers.proofs.Congruence.{residue-lt}
use Rattle.matrix.proofs.word.Goals as goal

pub overflow_cast-result : goal.overflow_cast-result
overflow_cast-result c = record { fits = rw c.residue32.ensures (residue-lt 65536 _ (omega arith)) }
