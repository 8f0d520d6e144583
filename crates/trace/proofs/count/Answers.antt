-- `trace::count` meets its contract.
use Rattle.lists.proofs.Kit.{arith}
use Rattle.trace.proofs.Counting.{going-none, going_more, going-many, going-other, going-all, pair-known}
use Rattle.trace.proofs.count.Goals as goal

pub loop-init : goal.loop-init
loop-init c = going-none _

pub returns-then-s-at : goal.returns-then-s-at
returns-then-s-at c = going-all c.loop.invariant (omega arith)

pub returns-in_err-pair : goal.returns-in_err-pair
returns-in_err-pair c = rw c.from_residual.ensures (going-other c.loop.invariant (omega arith) (omega arith) c.in_err-pair.ensures.means)

pub bounds-tallies-pair : goal.bounds-tallies-pair
bounds-tallies-pair c = omega (arith, pair-known c.args.s.now c.loop.at c.in_ok-pair.pair c.in_ok-pair.ensures.means)

pub offset_bounds-tallies-pair : goal.offset_bounds-tallies-pair
offset_bounds-tallies-pair c = omega (arith, pair-known c.args.s.now c.loop.at c.in_ok-pair.pair c.in_ok-pair.ensures.means)

pub add-requires : goal.add-requires
add-requires c =
    let h = c.loop.invariant.held in
    let k = pair-known c.args.s.now c.loop.at c.in_ok-pair.pair c.in_ok-pair.ensures.means in
    (omega (arith, h.few c.in_ok-pair.pair.scheme), omega (arith, h.small c.in_ok-pair.pair.scheme), k.1)

pub loop-preserved : goal.loop-preserved
loop-preserved c = rw c.add.ensures (going_more c.loop.invariant (omega arith) (omega arith) c.in_ok-pair.pair c.in_ok-pair.ensures)

pub returns-then-at-s : goal.returns-then-at-s
returns-then-at-s c = going-many c.loop.invariant (omega arith) (omega arith)

pub returns : goal.returns
returns c = going-all c.loop.invariant (omega arith)
