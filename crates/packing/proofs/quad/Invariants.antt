-- `packing::quad` meets its contract: a number more at each turn, from the last to the first.
use Rattle.lists.proofs.Kit.{take, drop}
use Rattle.std.proofs.Common.{◌≡◌, ◌+◌, ◌-◌, ◌^◌, ◌≤◌}
use Rattle.packing.specs.Packing.{value}
use Rattle.packing.proofs.quad.Given as goal

abbrev pub invariant-loop-k : goal.invariant-loop-k
invariant-loop-k l = (l.k ≤ 4) × (l.v ≡ value (2 ^ l.w) (take (4 - l.k) (drop (l.j + l.k) l.xs)))
