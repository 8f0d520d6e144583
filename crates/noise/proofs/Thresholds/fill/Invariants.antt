-- `noise::Thresholds::fill` meets its contract: it stores the values of the words, some at a time.
use Rattle.std.proofs.Common.{◌*◌}
use Rattle.noise.proofs.{Blocks.made}
use Rattle.noise.proofs.Thresholds.fill.Given as goal

abbrev pub invariant-loop-block : goal.invariant-loop-block
invariant-loop-block g l = made l.self.all l.self.bits l.bytes l.initial.out l.out (64 * l.block)
