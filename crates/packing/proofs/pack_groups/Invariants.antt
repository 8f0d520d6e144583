-- `packing::pack_groups` meets its contract: after g groups the first w g bytes are there.
use Rattle.lists.proofs.Kit.{length, take}
use Rattle.std.proofs.Common.{◌≡◌, ◌*◌, ◌^◌}
use Rattle.packing.specs.Packing.{value, digits}
use Rattle.packing.proofs.pack_groups.Given as goal

abbrev pub invariant-loop-g : goal.invariant-loop-g
invariant-loop-g p l =
    (length l.out ≡ length l.initial.out) × (take (p.row.W * l.g) l.out ≡ digits 256 (p.row.W * l.g) (value (2 ^ p.row.W) l.xs))
