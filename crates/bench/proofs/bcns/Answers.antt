-- `bench::bcns` meets its contract: whatever is not refused agrees.
use Rattle.bench.specs.Bench.{bench}
use Rattle.bench.proofs.{Answering.bcns-answered}
use Rattle.bench.proofs.bcns.Goals as goal

pub returns : goal.returns
returns c =
    let a = c.args in
    let x = bench a.a.now a.s.now a.e.now a.seed.now a.s1.now a.e1.now a.e2.now a.coins.now in
    bcns-answered x _ c.from_offer.ensures
