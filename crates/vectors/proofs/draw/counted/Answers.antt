-- `vectors::draw::counted`: a remainder is below its modulus, here 2^32.
use Rattle.std.proofs.Common.{arith}
use Rattle.numbers.proofs.Congruence.{residue-lt}
use Rattle.vectors.proofs.draw.counted.Goals as goal

pub overflow_cast-result : goal.overflow_cast-result
overflow_cast-result c = record { fits = rw c.residue64.ensures (residue-lt 4294967296 _ (omega arith)) }
