-- `transform::sums` meets its contract: ten levels, each of which makes its sums twice as long, and the remainders.
use Rattle.lists.proofs.Kit.{refl, ◌∙◌}
use Rattle.transform.proofs.Levels.{Holds, Placed, holds-start, five-levels, first-across, last-across, in_order, holds-end}
use Rattle.transform.proofs.sums.Goals as goal
use Rattle.transform.proofs.sums.Goals.{After-cross-2, After-cross-4, After-level-5}

-- what five levels make of the numbers, eight and ten
half : (c : After-level-5) → Holds c.args.g.now c.args.a 32 32 c.level-5.new.dst
half c =
    five-levels _ _ 1 32 refl (holds-start _ _ _ c.narrow.ensures c.requires.1)
    c.level.ensures c.level-2.ensures c.level-3.ensures c.level-4.ensures c.level-5.ensures

eight : (c : After-cross-2) → Placed c.args.g.now c.args.a 256 4 256 1 c.cross-2.new.dst
eight c =
    first-across (half (goal.at.After-cross-2 c).After-level-5) c.level-6.ensures c.lay.ensures c.cross.ensures c.lay-2.ensures c.cross-2.ensures

whole : (c : After-cross-4) → Placed c.args.g.now c.args.a 1024 1 1024 1 c.cross-4.new.dst
whole c =
    last-across (eight (goal.at.After-cross-4 c).After-cross-2) c.lay-3.ensures c.cross-3.ensures c.lay-4.ensures c.cross-4.ensures

pub reduce-requires : goal.reduce-requires
reduce-requires c = ((whole (goal.at.reduce-requires c).After-cross-4).small, c.requires.2)

pub returns : goal.returns
returns c = c.reduce.ensures ∙ holds-end _ _ _ (in_order (whole (goal.at.returns c).After-cross-4))
