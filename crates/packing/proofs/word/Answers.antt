-- `packing::word` meets its contract: past the end a byte reads 0.
use Rattle.lists.proofs.Kit.{arith}
use Rattle.packing.proofs.{Laws.value-four}
use Rattle.packing.proofs.word.Goals as goal

pub returns-else-i-bytes : goal.returns-else-i-bytes
returns-else-i-bytes c = rw value-four (omega arith)
