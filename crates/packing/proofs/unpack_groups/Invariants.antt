-- `packing::unpack_groups` meets its contract: after g groups the first 8 g numbers are there.
use Rattle.lists.proofs.Kit.{length, take}
use Rattle.std.proofs.Common.{◌≡◌, ◌*◌, ◌^◌}
use Rattle.packing.specs.Packing.{value, digits}
use Rattle.packing.proofs.unpack_groups.Given as goal

abbrev pub invariant-loop-g : goal.invariant-loop-g
invariant-loop-g p l =
    (length l.out ≡ length l.initial.out) × (take (8 * l.g) l.out ≡ digits (2 ^ p.row.W) (8 * l.g) (value 256 l.bytes))
