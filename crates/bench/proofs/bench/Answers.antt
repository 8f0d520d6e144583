-- `bench::bench` meets its contract: what the scheme by its name gives.
use Rattle.refusals.specs.declared.Refusal.TheVariants.{NoScheme}
use Rattle.refusals.proofs.Ends.{given_up}
use Rattle.bench.specs.Bench.{bench}
use Rattle.bench.proofs.{Answering.bench-unknown}
use Rattle.bench.proofs.bench.Goals as goal

pub returns-in_err-known : goal.returns-in_err-known
returns-in_err-known c =
    let a = c.args in
    let x = bench a.a.now a.s.now a.e.now a.seed.now a.s1.now a.e1.now a.e2.now a.coins.now in
    rw (given_up _ {e = NoScheme} c.from_residual.ensures) (bench-unknown x c.in_err-known.ensures)

pub returns : goal.returns
returns c = rw c.in_ok-known.ensures c.by_scheme.ensures
