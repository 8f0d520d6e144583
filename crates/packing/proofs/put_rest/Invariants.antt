-- `packing::put_rest` meets its contract: what the digits that are left would complete stays the same from turn to turn.
use Rattle.lists.proofs.Kit.{length}
use Rattle.std.proofs.Common.{◌≡◌, ◌≤◌}
use Rattle.packing.proofs.{Flow.filled}
use Rattle.packing.proofs.put_rest.Given as goal

abbrev pub invariant-loop-i : goal.invariant-loop-i
invariant-loop-i l = (length l.out ≡ length l.initial.out) × (l.i ≤ length l.initial.out) × (filled 256 l.v l.i l.out ≡ filled 256 l.initial.v l.j l.initial.out)
