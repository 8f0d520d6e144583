-- `packing::byte` meets its contract: past its end a list reads 0.
use Rattle.lists.proofs.Kit.{sym, List·getD-eq-default}
use Rattle.packing.proofs.byte.Goals as goal

pub returns-else-i-bytes : goal.returns-else-i-bytes
returns-else-i-bytes c = sym (List·getD-eq-default c.args.bytes.now 0 c.if-i-bytes.false)
