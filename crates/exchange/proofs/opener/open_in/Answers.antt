-- `exchange::opener::open_in` meets its contract: where a length or room is refused the outputs keep their zeros.
use Rattle.refusals.proofs.Ends.{given_up}
use Rattle.exchange.proofs.Opening.{open-failed}
use Rattle.exchange.proofs.opener.open_in.Goals as goal

pub returns-in_err-open_sizes : goal.returns-in_err-open_sizes
returns-in_err-open_sizes c =
    rw (given_up _ c.from_residual.ensures) (open-failed _ _ _ _ c.in_err-open_sizes.ensures c.requires.0 c.requires.1)
