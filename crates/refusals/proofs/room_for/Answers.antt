-- `refusals::room_for` meets its contract.
use Rattle.lists.proofs.Kit.{le-leb, lt-leb}
use Rattle.refusals.specs.Refusals.{room_for_lem}
use Rattle.refusals.proofs.room_for.Goals as goal

pub returns-then-n-room : goal.returns-then-n-room
returns-then-n-room c = unfold room_for_lem in rw (le-leb _ _ c.if-n-room.true)

pub returns-else-n-room : goal.returns-else-n-room
returns-else-n-room c = unfold room_for_lem in rw (lt-leb _ _ c.if-n-room.false)
