-- `keccak::permute` meets its contract: what the rounds that are left make of the state is what all of them make of the first.
use Rattle.lists.proofs.Kit.{drop}
use Rattle.std.proofs.Common.{◌≡◌}
use Rattle.keccak.specs.Keccak.{rounds, keccak_f, constants}
use Rattle.keccak.proofs.permute.Given as goal

abbrev pub invariant-loop-rc : goal.invariant-loop-rc
invariant-loop-rc l = rounds (drop l.rc-index constants) l.s ≡ keccak_f l.initial.s
