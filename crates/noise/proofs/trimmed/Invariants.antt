-- `noise::trimmed` meets its contract: a word that is not taken is left out from the end, until one is.
use Rattle.std.proofs.Common.{◌≡◌}
use Rattle.noise.specs.{Expand.rule, Expand.words, Expand.taken}
use Rattle.noise.proofs.{Stream.so_far}
use Rattle.noise.proofs.trimmed.Given as goal

abbrev pub invariant-loop-i : goal.invariant-loop-i
invariant-loop-i l = so_far (rule l.name) l.stream l.i ≡ taken (rule l.name) (words l.stream)
