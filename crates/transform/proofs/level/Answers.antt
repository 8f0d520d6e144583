-- `transform::level` meets its contract, run after run.
use Rattle.lists.proofs.Kit.{arith}
use Rattle.transform.specs.Level.{OneBlock}
use Rattle.transform.proofs.{Joins.next-run}
use Rattle.transform.proofs.level.Goals as goal
use Rattle.transform.proofs.level.Goals.{In-loop-k}

-- the next run lies in one block
within : (c : In-loop-k) → OneBlock c.args.h 16 c.loop-k.k
within c =
    let l = c.loop-k in
    next-run c.args.h 16 l.k c.requires.a_bound.1 c.requires.a_bound.2 (omega arith) c.requires.a_bound.3 l.invariant.1 (omega arith)

pub run-requires : goal.run-requires
run-requires c =
    record { a_bound = (c.requires.a_bound.0, c.requires.a_bound.1, within (goal.at.run-requires c).In-loop-k); made = c.loop-k.invariant.2 }
