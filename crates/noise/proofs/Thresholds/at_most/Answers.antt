-- `noise::Thresholds::at_most` meets its contract.
use Rattle.lists.proofs.Kit.{arith, le-leb, lt-leb}
use Rattle.noise.proofs.{Noise.counted-more, Noise.counted-few, Noise.counted-all}
use Rattle.noise.proofs.Thresholds.at_most.Goals as goal
use Rattle.noise.proofs.Thresholds.at_most.Goals.{then-x-t, else-x-t}

pub loop-x-preserved : goal.loop-x-preserved
loop-x-preserved g c =
    counted-more c.loop-x.invariant _ (omega arith) (elim c.if-x-t.branch [ then-x-t w ↦ rw (le-leb _ _ w.if-x-t.true) w.size-is | else-x-t w ↦ rw (lt-leb _ _ w.if-x-t.false) w.size-is ])

pub overflow_add-size : goal.overflow_add-size
overflow_add-size g c = omega (arith, counted-few c.loop-x.invariant, c.args.self.now.few)

pub returns : goal.returns
returns g c = counted-all c.loop-x.invariant (omega arith)
