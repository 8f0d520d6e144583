-- `offer::offer` meets its contract: where the number names no scheme the output is all zeros.
use Rattle.refusals.specs.declared.Refusal.TheVariants.{NoScheme}
use Rattle.refusals.proofs.{Ends.given_up, Seen.shown-failed}
use Rattle.offer.proofs.{Offering.offer-unknown}
use Rattle.offer.proofs.offer.Goals as goal

pub returns-in_err-known : goal.returns-in_err-known
returns-in_err-known c =
    let v = c.in_err-known.ensures.value in
    rw (given_up _ {e = NoScheme} c.from_residual.ensures) (shown-failed _ _ _ (offer-unknown _ _ v.0) v.1)
