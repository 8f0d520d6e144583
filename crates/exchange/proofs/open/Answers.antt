-- `exchange::open` meets its contract: where the number names no scheme the outputs are all zeros.
use Rattle.refusals.specs.declared.Refusal.TheVariants.{NoScheme}
use Rattle.refusals.proofs.Ends.{given_up}
use Rattle.exchange.proofs.Opening.{open_unknown}
use Rattle.exchange.proofs.open.Goals as goal

pub returns-in_err-known : goal.returns-in_err-known
returns-in_err-known c =
    let v = c.in_err-known.ensures.value in
    rw (given_up _ {e = NoScheme} c.from_residual.ensures) (open_unknown _ _ _ v.0 v.1 (c.fill.ensures.after (λ y e. e)))
