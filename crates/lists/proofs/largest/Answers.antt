-- `lists::largest` meets its contract.
use Rattle.lists.proofs.Kit.{arith, ◌∙◌, ap, ℕ, max}
use Rattle.std.proofs.lemmas.List.{get_or_default}
use Rattle.std.proofs.lemmas.Grind.{common_steps}
use Rattle.std.specs.Ordering.{ord_max}
use Rattle.std.proofs.Common.{nat_cmp, ◌≡◌}
use Rattle.lists.proofs.{First.most-none, First.most-more, First.most-all}
use Rattle.lists.proofs.largest.Goals as goal

-- what `max` gives of two numbers
larger : (a b : ℕ) {c m : ℕ} → m ≡ ord_max nat_cmp a b → b ≡ c → m ≡ max a c
larger a b e d = rw (e, d) (grind (arith, common_steps))

pub loop-x-preserved : goal.loop-x-preserved
loop-x-preserved g c =
    let t = g.T.Size in
    let x = c.x-item.is ∙ get_or_default c.args.xs.now c.loop-x.x-index c.x-item.result t.zero c.loop-x-test.true in
    most-more t.size_of t.zero _ c.loop-x.x-index _ _ c.loop-x.invariant c.loop-x-test.true (larger _ _ c.max-most.ensures (c.size.ensures ∙ ap t.size_of x))

pub loop-x-init : goal.loop-x-init
loop-x-init g c = most-none g.T.Size.size_of g.T.Size.zero _

pub returns : goal.returns
returns g c = most-all g.T.Size.size_of g.T.Size.zero _ _ _ c.loop-x.invariant c.loop-x-test.false
