-- `keccak::mix` meets its contract: every lane is the definition's, by computation.
use Rattle.lists.proofs.Kit.{refl}
use Rattle.lists.specs.Entries.{tab}
use Rattle.keccak.specs.Keccak.{theta, rho, pi}
use Rattle.keccak.proofs.mix.Goals as goal

pub returns : goal.returns
returns c = unfold theta rho pi tab in refl
