-- `sponge::absorb_last` meets its contract.
use Rattle.lists.proofs.Kit.{◌∙◌, ap}
use Rattle.keccak.specs.Keccak.{keccak_f}
use Rattle.sponge.specs.Sponge.{over}
use Rattle.sponge.proofs.absorb_last.Goals as goal

pub returns : goal.returns
returns c =
    c.permute.ensures ∙ ap keccak_f (c.xor_block-x.ensures ∙ ap (over c.args.s) c.pad.ensures)
