-- `finish::tests::finish_sizes` meets its contract: one test after the other.
use Rattle.refusals.specs.Refusals.{◌then◌}
use Rattle.refusals.proofs.Ends.{given_up}
use Rattle.finish.specs.Inside.{finish_sizes_lem}
use Rattle.finish.proofs.tests.finish_sizes.Goals as goal

pub returns-in_err-length_is : goal.returns-in_err-length_is
unfolding finish_sizes_lem ◌then◌
returns-in_err-length_is c = rw (given_up _ c.from_residual.ensures, ← c.fixed-f.ensures, ← c.in_err-length_is.ensures)

pub returns-in_err-length_is-2 : goal.returns-in_err-length_is-2
unfolding finish_sizes_lem ◌then◌
returns-in_err-length_is-2 c =
    rw (given_up _ c.from_residual-in_err-length_is-2.ensures, ← c.fixed-f.ensures, ← c.in_ok-length_is.ensures, ← c.in_err-length_is-2.ensures)

pub returns : goal.returns
unfolding finish_sizes_lem ◌then◌
returns c = rw (← c.fixed-f.ensures, ← c.in_ok-length_is.ensures, ← c.in_ok-length_is-2.ensures) c.room_for.ensures
