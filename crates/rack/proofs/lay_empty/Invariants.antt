-- `rack::lay_empty` meets its contract: so many studios have their numbers.
use Rattle.std.proofs.Common.{◌≡◌}
use Rattle.lists.proofs.Kit.{replicate}
use Rattle.rack.proofs.Calls.{with_numbers}
use Rattle.rack.proofs.lay_empty.Given as goal

abbrev pub invariant-loop-studio : goal.invariant-loop-studio
invariant-loop-studio l = l.bytes ≡ with_numbers l.studio (replicate 1048 0)
