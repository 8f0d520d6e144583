-- `transform::row` meets its contract: each turn makes one more entry of each half.
use Rattle.lists.proofs.Kit.{◌+◌, ◌*◌, ◌≤◌, ◌<◌, arith, mul-le-mul_right}
use Rattle.transform.proofs.{Joins.crossed-more}
use Rattle.transform.proofs.row.Goals as goal
use Rattle.transform.proofs.row.Goals.{In-loop-i, Start}

writes : (c : Start) → c.args.o * c.args.m + c.args.m ≤ 512
writes c = omega (arith, mul-le-mul_right c.args.m c.requires.o_lt_h.0)

pub loop-i-preserved : goal.loop-i-preserved
loop-i-preserved c =
    let l = c.loop-i in
    let p : l.i < c.args.m = omega arith in
    crossed-more _ _ _ c.args.h c.args.m c.args.u c.args.v c.args.o l.i p (omega (arith, writes (goal.at.loop-i-preserved c).Start)) l.invariant _ c.join.ensures
