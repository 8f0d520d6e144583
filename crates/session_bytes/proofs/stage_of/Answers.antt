-- `session_bytes::stage_of` meets its contract.
use Rattle.session_bytes.proofs.Stages.{staged-at}
use Rattle.session_bytes.proofs.stage_of.Goals as goal

pub returns-then-bytes : goal.returns-then-bytes
returns-then-bytes c = staged-at c.args.bytes.now c.if-bytes-ne130.false c.in_ok-stage.ensures c.key_length-from.ensures c.if-bytes.ensures

pub returns-else-bytes : goal.returns-else-bytes
returns-else-bytes c = staged-at c.args.bytes.now c.if-bytes-ne130.false c.in_ok-stage.ensures c.key_length-from.ensures c.if-bytes.ensures
