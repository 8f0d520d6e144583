-- `sponge::shake128` meets its contract.
use Rattle.lists.proofs.Kit.{ap, ◌∙◌, List, ℕ, length}
use Rattle.sponge.specs.Sponge.{squeezed, shake128}
use Rattle.sponge.proofs.shake128.Goals as goal

pub returns : goal.returns
unfolding shake128
returns c =
    c.squeeze.ensures ∙ ap (λ (t : List ℕ). squeezed 168 t (length c.args.out.now)) c.absorb-s.ensures
