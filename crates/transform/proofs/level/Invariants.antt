-- `transform::level` meets its contract, run after run.
use Rattle.lists.proofs.Kit.{◌≡◌, ◌-◌, ◌%◌, ◌≤◌}
use Rattle.transform.specs.Level.{Butterflies}
use Rattle.transform.proofs.level.Given as goal

abbrev pub invariant-loop-k : goal.invariant-loop-k
invariant-loop-k l = (l.k ≤ 512) × (l.k % 16 ≡ 0) × Butterflies l.src l.a l.h l.k l.dst

abbrev pub decreases-loop-k : goal.decreases-loop-k
decreases-loop-k l = 512 - l.k
