-- `bcns_noise::first_not_above` meets its contract.
use Rattle.lists.proofs.Kit.{◌∙◌, sym, arith, length}
use Rattle.std.proofs.Common.{◌≡◌, ◌/◌}
use Rattle.bcns_noise.proofs.Table.{search-next, search-found, search-end}
use Rattle.bcns_noise.proofs.first_not_above.Goals as goal

pub returns-then-falls_at : goal.returns-then-falls_at
returns-then-falls_at c =
    search-found _ c.loop-k.k c.loop-k.invariant c.loop-k-test.true (sym c.falls_at.ensures ∙ c.if-falls_at.true)

pub loop-k-preserved : goal.loop-k-preserved
loop-k-preserved c =
    search-next _ c.loop-k.k c.loop-k.invariant c.loop-k-test.true (sym c.falls_at.ensures ∙ c.if-falls_at.false)

pub returns : goal.returns
returns c =
    let e : c.loop-k.k ≡ length c.args.table.now / 3 = omega arith in
    rw (← e) (search-end _ c.loop-k.k c.loop-k.invariant c.loop-k-test.false)
