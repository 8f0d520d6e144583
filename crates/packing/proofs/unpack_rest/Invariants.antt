-- `packing::unpack_rest` meets its contract: the invariant is `Flow` at 8 bits in, with fewer than 32 bits held.
use Rattle.std.proofs.Common.{◌≤◌, ◌<◌}
use Rattle.lists.proofs.Kit.{length}
use Rattle.packing.proofs.Flow.{Flow}
use Rattle.packing.proofs.unpack_rest.Given as goal

abbrev pub invariant-loop-j : goal.invariant-loop-j
invariant-loop-j l = (l.held < 32) × (l.j ≤ length l.initial.out) × Flow 8 l.w l.bytes (length l.initial.out) l.out l.acc l.held l.i l.j
