-- `packing::pack_rest` meets its contract: the invariant is `Flow` at 8 bits out, with fewer than 32 bits held.
use Rattle.lists.proofs.Kit.{length}
use Rattle.std.proofs.Common.{◌≤◌, ◌<◌}
use Rattle.packing.proofs.Flow.{Flow}
use Rattle.packing.proofs.pack_rest.Given as goal

abbrev pub invariant-loop-i : goal.invariant-loop-i
invariant-loop-i l = (l.held < 32) × (l.i ≤ length l.xs) × Flow l.w 8 l.xs (length l.initial.out) l.out l.acc l.held l.i l.j
