-- `offer::tests::offer_lengths` meets its contract: one test after the other.
use Rattle.refusals.specs.Refusals.{◌then◌}
use Rattle.refusals.proofs.Ends.{given_up}
use Rattle.offer.specs.Inside.{offer_lengths_lem}
use Rattle.offer.proofs.tests.offer_lengths.Goals as goal

pub returns-in_err-length_is : goal.returns-in_err-length_is
unfolding offer_lengths_lem ◌then◌
returns-in_err-length_is c =
    rw (given_up _ c.from_residual.ensures, ← c.fixed-f.ensures, ← c.in_err-length_is.ensures)

pub returns-in_err-length_is-2 : goal.returns-in_err-length_is-2
unfolding offer_lengths_lem ◌then◌
returns-in_err-length_is-2 c =
    rw (given_up _ c.from_residual-in_err-length_is-2.ensures, ← c.fixed-f.ensures, ← c.in_ok-length_is.ensures, ← c.in_err-length_is-2.ensures)

pub returns-in_err-length_is-3 : goal.returns-in_err-length_is-3
unfolding offer_lengths_lem ◌then◌
returns-in_err-length_is-3 c =
    rw (given_up _ c.from_residual-in_err-length_is-3.ensures, ← c.fixed-f.ensures, ← c.in_ok-length_is.ensures, ← c.in_ok-length_is-2.ensures, ← c.in_err-length_is-3.ensures)

pub returns : goal.returns
unfolding offer_lengths_lem ◌then◌
returns c =
    rw (← c.fixed-f.ensures, ← c.in_ok-length_is.ensures, ← c.in_ok-length_is-2.ensures, ← c.in_ok-length_is-3.ensures) c.length_is-4.ensures
