-- `exchange::opener::open_by` meets its contract: by public numbers that are grown, or lent.
use Rattle.lists.proofs.Kit.{sym, arith}
use Rattle.exchange.proofs.{Grown.lends, Opening.open-passed, Opening.open-newhope}
use Rattle.exchange.proofs.opener.open_by.Goals as goal

pub returns-then-a-eq0 : goal.returns-then-a-eq0
returns-then-a-eq0 c =
    let p = open-newhope c.requires.open_sized (omega arith) c.args.s.now (c.open_grown.ensures.opening_value_2, c.open_grown.ensures.open_holds) in
    record { opening_value_2 = p.0; open_holds = p.1 }

pub returns-else-a-eq0 : goal.returns-else-a-eq0
returns-else-a-eq0 c =
    let z = c.requires.open_sized in
    let L = lends c.args.scheme _ _ c.args.a.now (λ e. omega (arith, z.lent.public-long)) in
    let p = open-passed z c.args.s.now L.none (sym L.from) (c.open_drawn.ensures.opening_value_2, c.open_drawn.ensures.s_value) in
    record { opening_value_2 = p.0; open_holds = p.1 }
