-- `packing::unpack_group` meets its contract: after k turns k numbers are written.
use Rattle.lists.proofs.Kit.{length, drop}
use Rattle.std.proofs.Common.{◌≡◌, ◌^◌, ◌≤◌}
use Rattle.packing.specs.Packing.{value}
use Rattle.packing.proofs.{Flow.written}
use Rattle.packing.proofs.unpack_group.Given as goal

abbrev pub invariant-loop-k : goal.invariant-loop-k
invariant-loop-k l = (l.k ≤ 8) × (length l.out ≡ length l.initial.out) × (l.out ≡ written (2 ^ l.w) l.k (value 256 (drop l.i l.bytes)) l.j l.initial.out)
