-- `packing::four` meets its contract: the number of four digits, one after the other.
use Rattle.lists.proofs.Kit.{arith}
use Rattle.packing.proofs.{Laws.value-four}
use Rattle.packing.proofs.four.Goals as goal

pub returns : goal.returns
returns c = (rw value-four (omega arith), omega arith)
