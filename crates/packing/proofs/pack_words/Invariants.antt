-- `packing::pack_words` meets its contract: after j turns the first 4 j bytes are there.
use Rattle.lists.proofs.Kit.{length, take}
use Rattle.std.proofs.Common.{◌≡◌, ◌*◌, ◌≤◌}
use Rattle.packing.specs.Packing.{value, digits}
use Rattle.packing.proofs.pack_words.Given as goal

abbrev pub invariant-loop-j : goal.invariant-loop-j
invariant-loop-j l = (length l.out ≡ length l.initial.out) × (l.j ≤ length l.xs) × (take (4 * l.j) l.out ≡ digits 256 (4 * l.j) (value 4294967296 l.xs))
