-- `reply::tests::reply_sizes` meets its contract: one test after the other.
use Rattle.refusals.specs.Refusals.{◌then◌}
use Rattle.refusals.proofs.Ends.{given_up}
use Rattle.reply.proofs.tests.reply_sizes.Goals as goal

pub returns-in_err-reply_lengths : goal.returns-in_err-reply_lengths
unfolding ◌then◌
returns-in_err-reply_lengths c = rw (given_up _ c.from_residual.ensures, ← c.in_err-reply_lengths.ensures)

pub returns-in_err-room_for : goal.returns-in_err-room_for
unfolding ◌then◌
returns-in_err-room_for c =
    rw (given_up _ c.from_residual-in_err-room_for.ensures, ← c.fixed-f.ensures, ← c.in_ok-reply_lengths.ensures, ← c.in_err-room_for.ensures)

pub returns-in_err-room_for-2 : goal.returns-in_err-room_for-2
unfolding ◌then◌
returns-in_err-room_for-2 c =
    rw (given_up _ c.from_residual-in_err-room_for-2.ensures, ← c.fixed-f.ensures, ← c.in_ok-reply_lengths.ensures, ← c.in_ok-room_for.ensures, ← c.in_err-room_for-2.ensures)

pub returns : goal.returns
unfolding ◌then◌
returns c =
    rw (← c.fixed-f.ensures, ← c.in_ok-reply_lengths.ensures, ← c.in_ok-room_for.ensures, ← c.in_ok-room_for-2.ensures) c.room_for-3.ensures
