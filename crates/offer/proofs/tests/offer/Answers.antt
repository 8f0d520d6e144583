-- `offer::tests::offer` meets its contract: one test after the other, and that of the public numbers where a secret's fails.
use Rattle.refusals.specs.Refusals.{◌then◌}
use Rattle.refusals.proofs.Ends.{given_up}
use Rattle.offer.specs.Inside.{offer_ahead}
use Rattle.offer.proofs.tests.offer.Goals as goal

pub returns-in_err-offer_lengths : goal.returns-in_err-offer_lengths
unfolding offer_ahead ◌then◌
returns-in_err-offer_lengths c =
    rw (given_up _ c.from_residual.ensures, ← c.in_err-offer_lengths.ensures)

pub returns-in_err-room_for : goal.returns-in_err-room_for
unfolding offer_ahead ◌then◌
returns-in_err-room_for c =
    rw (given_up _ c.from_residual-in_err-room_for.ensures, ← c.in_ok-offer_lengths.ensures, ← c.fixed-f.ensures, ← c.in_err-room_for.ensures)

pub returns : goal.returns
unfolding offer_ahead ◌then◌
returns c =
    rw (← c.in_ok-offer_lengths.ensures, ← c.offer_secrets.ensures, ← c.fixed-f.ensures, ← c.in_ok-room_for.ensures) c.publics_before.ensures
