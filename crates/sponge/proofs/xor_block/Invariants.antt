-- `sponge::xor_block` meets its contract: it fills the first lanes, and over the others nothing is laid.
use Rattle.lists.proofs.Fill.{Filled}
use Rattle.sponge.proofs.{Lanes.laid}
use Rattle.sponge.proofs.xor_block.Given as goal

abbrev pub invariant-loop-i : goal.invariant-loop-i
invariant-loop-i l = Filled (laid l.initial.t l.b) l.initial.t l.t l.i
