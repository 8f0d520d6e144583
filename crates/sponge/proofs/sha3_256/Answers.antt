-- `sponge::sha3_256` meets its contract.
use Rattle.lists.proofs.Kit.{ap₂, ◌∙◌, List, ℕ}
use Rattle.sponge.specs.Sponge.{squeezed, sha3}
use Rattle.sponge.proofs.sha3_256.Goals as goal

pub returns : goal.returns
unfolding sha3
returns c =
    c.squeeze.ensures ∙ ap₂ (λ (t : List ℕ) (n : ℕ). squeezed 136 t n) c.absorb-s.ensures c.requires
