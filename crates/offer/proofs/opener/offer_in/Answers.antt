-- `offer::opener::offer_in` meets its contract: where a test but that of the public numbers fails, the output keeps its zeros.
use Rattle.refusals.proofs.{Ends.given_up, Seen.shown-failed}
use Rattle.offer.proofs.{Offering.offer-failed}
use Rattle.offer.proofs.opener.offer_in.Goals as goal

pub returns-in_err-offer : goal.returns-in_err-offer
returns-in_err-offer c =
    rw (given_up _ c.from_residual.ensures) (shown-failed _ _ _ (offer-failed _ _ _ c.in_err-offer.ensures) c.requires)
