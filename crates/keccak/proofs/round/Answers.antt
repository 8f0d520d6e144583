-- `keccak::round` meets its contract.
use Rattle.lists.proofs.Kit.{ap, ◌∙◌, List, ℕ}
use Rattle.keccak.specs.Keccak.{round, chi, iota}
use Rattle.keccak.proofs.round.Goals as goal

pub returns : goal.returns
unfolding round
returns c = c.chi_iota.ensures ∙ ap (λ (b : List ℕ). iota c.args.rc (chi b)) c.mix-b.ensures
