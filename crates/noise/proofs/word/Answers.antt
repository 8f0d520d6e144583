-- `noise::word` meets its contract.
use Rattle.lists.proofs.Kit.{arith}
use Rattle.noise.specs.Noise.{word_at}
use Rattle.noise.proofs.word.Goals as goal

pub returns : goal.returns
unfolding word_at
returns c = omega (arith, c.from_le_bytes.ensures)
