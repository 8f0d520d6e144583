-- `wire::steps::reply_secrets` meets its contract: one test after the other.
use Rattle.refusals.specs.Refusals.{◌then◌}
use Rattle.refusals.proofs.Ends.{given_up}
use Rattle.wire.specs.Steps.{reply_secrets_lem}
use Rattle.wire.proofs.steps.reply_secrets.Goals as goal

pub returns-in_err-secrets_in : goal.returns-in_err-secrets_in
unfolding reply_secrets_lem ◌then◌
returns-in_err-secrets_in c =
    rw (given_up _ c.from_residual.ensures, ← c.fixed-f.ensures, ← c.in_err-secrets_in.ensures)

pub returns-in_err-secrets_in-2 : goal.returns-in_err-secrets_in-2
unfolding reply_secrets_lem ◌then◌
returns-in_err-secrets_in-2 c =
    rw (given_up _ c.from_residual-in_err-secrets_in-2.ensures, ← c.fixed-f.ensures, ← c.in_ok-secrets_in.ensures, ← c.in_err-secrets_in-2.ensures)

pub returns : goal.returns
unfolding reply_secrets_lem ◌then◌
returns c =
    rw (← c.fixed-f.ensures, ← c.in_ok-secrets_in.ensures, ← c.in_ok-secrets_in-2.ensures) c.secrets_in-3.ensures
