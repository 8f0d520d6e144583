-- `lists::first_apart` meets its contract.
use Rattle.lists.proofs.Kit.{arith, ◌∙◌}
use Rattle.lists.proofs.{First.tried-none, First.along, First.parted, First.met, First.reached_end}
use Rattle.lists.proofs.first_apart.Goals as goal

pub returns-then-xs-at : goal.returns-then-xs-at
returns-then-xs-at c =
    parted c.args.xs.now c.args.ys.now c.requires c.loop-at.at c.loop-at.invariant c.if-xs-at.true

pub loop-at-preserved : goal.loop-at-preserved
loop-at-preserved c =
    along c.args.xs.now c.args.ys.now c.requires c.loop-at.at c.loop-at.invariant (omega arith) c.if-xs-at.false

pub returns : goal.returns
returns c =
    reached_end c.loop-at.auto.at-end c.loop-at-test.false ∙ met c.args.xs.now c.args.ys.now c.requires c.loop-at.at c.loop-at.invariant c.loop-at-test.false

pub loop-at-init : goal.loop-at-init
loop-at-init c = tried-none _ _
