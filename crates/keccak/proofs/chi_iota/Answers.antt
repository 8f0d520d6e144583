-- `keccak::chi_iota` meets its contract: every lane is the definition's, by computation.
use Rattle.lists.proofs.Kit.{refl}
use Rattle.lists.specs.Entries.{tab}
use Rattle.keccak.specs.Keccak.{chi, iota}
use Rattle.keccak.proofs.chi_iota.Goals as goal

pub returns : goal.returns
returns c = unfold chi iota tab in refl
