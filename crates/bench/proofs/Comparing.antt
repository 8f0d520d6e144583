-- Two keys bit by bit.
--   told-apart, told_same   the answer of two keys that differ, and of two that do not
use Rattle.lists.proofs.Kit.{List, ℕ, arith, length, lt-ltb, le-ltb}
use Rattle.std.proofs.Common.{Some, None, ◌≡◌, ◌*◌, ◌≤◌, ◌<◌}
use Rattle.lists.specs.{First.first_apart_lem, declared.Peak.Peak}
use Rattle.packing.specs.Packing.{unpacked}
use Rattle.bench.specs.{Bench.Compared, Bench.bits, Bench.differing, Inside.comparison}

-- ---- two keys, by as many bits of each as x and y have room for

module _ (own peer x y : List ℕ) (i : ℕ) (lx : length x ≡ 8 * length own) (ly : length y ≡ 8 * length peer)
    (e : i ≡ first_apart_lem (unpacked 1 (length x) own) (unpacked 1 (length y) peer)) where
  at_bits : i ≡ first_apart_lem (bits own) (bits peer)
  unfolding bits
  at_bits = rw (← lx, ← ly) e

  module _ (p : Peak) where
    pub told-apart : i < length x → ◌≡◌ {A = Compared} (record { differ = Some i; slack = p }) (comparison (differing own peer) p)
    unfolding differing
    told-apart h = rw (← at_bits, lt-ltb i (8 * length own) (omega arith))

    pub told_same : length x ≤ i → ◌≡◌ {A = Compared} (record { differ = None; slack = p }) (comparison (differing own peer) p)
    unfolding differing
    told_same h = rw (← at_bits, le-ltb i (8 * length own) (omega arith))
