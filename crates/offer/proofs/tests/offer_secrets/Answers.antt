-- `offer::tests::offer_secrets` meets its contract: one test after the other.
use Rattle.refusals.specs.Refusals.{◌then◌}
use Rattle.refusals.proofs.Ends.{given_up}
use Rattle.offer.proofs.tests.offer_secrets.Goals as goal

pub returns-in_err-secrets_in : goal.returns-in_err-secrets_in
unfolding ◌then◌
returns-in_err-secrets_in c =
    rw (given_up _ c.from_residual.ensures, ← c.fixed-f.ensures, ← c.in_err-secrets_in.ensures)

pub returns : goal.returns
unfolding ◌then◌
returns c = rw (← c.fixed-f.ensures, ← c.in_ok-secrets_in.ensures) c.secrets_in-2.ensures
