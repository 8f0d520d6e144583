-- `exchange::opener::open_sizes` meets its contract: one test after the other.
use Rattle.refusals.specs.Refusals.{◌then◌}
use Rattle.refusals.proofs.Ends.{given_up}
use Rattle.exchange.specs.Inside.{open_sizes_lem}
use Rattle.exchange.proofs.opener.open_sizes.Goals as goal

pub returns-in_err-ruled : goal.returns-in_err-ruled
unfolding open_sizes_lem ◌then◌
returns-in_err-ruled c =
    rw (given_up _ c.from_residual.ensures, ← c.lengths-l.ensures.public_value.0, ← c.lengths-l.ensures.public_value.1, ← c.lengths-l.ensures.secret_value.0, ← c.fixed-f.ensures, ← c.in_err-ruled.ensures)

pub returns-in_err-length_is : goal.returns-in_err-length_is
unfolding open_sizes_lem ◌then◌
returns-in_err-length_is c =
    rw (given_up _ c.from_residual-in_err-length_is.ensures, ← c.lengths-l.ensures.public_value.0, ← c.lengths-l.ensures.public_value.1, ← c.lengths-l.ensures.secret_value.0, ← c.fixed-f.ensures, ← c.in_ok-ruled.ensures, ← c.in_err-length_is.ensures)

pub returns-in_err-length_is-2 : goal.returns-in_err-length_is-2
unfolding open_sizes_lem ◌then◌
returns-in_err-length_is-2 c =
    rw (given_up _ c.from_residual-in_err-length_is-2.ensures, ← c.lengths-l.ensures.public_value.0, ← c.lengths-l.ensures.public_value.1, ← c.lengths-l.ensures.secret_value.0, ← c.fixed-f.ensures, ← c.in_ok-ruled.ensures, ← c.in_ok-length_is.ensures, ← c.in_err-length_is-2.ensures)

pub returns-in_err-length_is-3 : goal.returns-in_err-length_is-3
unfolding open_sizes_lem ◌then◌
returns-in_err-length_is-3 c =
    rw (given_up _ c.from_residual-in_err-length_is-3.ensures, ← c.lengths-l.ensures.public_value.0, ← c.lengths-l.ensures.public_value.1, ← c.lengths-l.ensures.secret_value.0, ← c.fixed-f.ensures, ← c.in_ok-ruled.ensures, ← c.in_ok-length_is.ensures, ← c.in_ok-length_is-2.ensures, ← c.in_err-length_is-3.ensures)

pub returns-in_err-room_for : goal.returns-in_err-room_for
unfolding open_sizes_lem ◌then◌
returns-in_err-room_for c =
    rw (given_up _ c.from_residual-in_err-room_for.ensures, ← c.lengths-l.ensures.public_value.0, ← c.lengths-l.ensures.public_value.1, ← c.lengths-l.ensures.secret_value.0, ← c.fixed-f.ensures, ← c.in_ok-ruled.ensures, ← c.in_ok-length_is.ensures, ← c.in_ok-length_is-2.ensures, ← c.in_ok-length_is-3.ensures, ← c.in_err-room_for.ensures)

pub returns : goal.returns
unfolding open_sizes_lem ◌then◌
returns c =
    rw (← c.lengths-l.ensures.public_value.0, ← c.lengths-l.ensures.public_value.1, ← c.lengths-l.ensures.secret_value.0, ← c.fixed-f.ensures, ← c.in_ok-ruled.ensures, ← c.in_ok-length_is.ensures, ← c.in_ok-length_is-2.ensures, ← c.in_ok-length_is-3.ensures, ← c.in_ok-room_for.ensures) c.room_for-2.ensures
