-- `bench::by_scheme` meets its contract: BCNS's answer, or that of the bench that compares.
use Rattle.refusals.proofs.Ends.{given_up}
use Rattle.bench.proofs.by_scheme.Goals as goal

pub returns-in_err-slack-in-Bcns : goal.returns-in_err-slack-in-Bcns
returns-in_err-slack-in-Bcns c = rw (given_up _ c.from_residual.ensures, c.in-Bcns.is) c.in_err-slack-in-Bcns.ensures

pub returns-in_ok-slack-in-Bcns : goal.returns-in_ok-slack-in-Bcns
returns-in_ok-slack-in-Bcns c = rw c.in-Bcns.is c.in_ok-slack-in-Bcns.ensures
