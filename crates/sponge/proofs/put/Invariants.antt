-- `sponge::put` meets its contract: it fills eight bytes at a time, and then one.
use Rattle.lists.proofs.Kit.{length}
use Rattle.std.proofs.Common.{◌≡◌, ◌*◌}
use Rattle.lists.proofs.Fill.{Filled}
use Rattle.sponge.specs.Sponge.{byte_at}
use Rattle.sponge.proofs.put.Given as goal

abbrev pub invariant-loop-i : goal.invariant-loop-i
invariant-loop-i l = Filled (byte_at l.s) l.initial.out l.out (l.i * 8)

-- l.initial.out is what the first loop has left
abbrev pub invariant-loop-k : goal.invariant-loop-k
invariant-loop-k l = (length l.initial.out ≡ l.n) × Filled (byte_at l.s) l.initial.out l.out l.k
