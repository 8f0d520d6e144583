-- `session_bytes::key_of` meets its contract.
use Rattle.lists.proofs.Kit.{◌∙◌}
use Rattle.session_bytes.proofs.{Calls.part-key}
use Rattle.session_bytes.proofs.key_of.Goals as goal

pub returns : goal.returns
returns c =
    c.copy_from_slice.ensures.after ∙ part-key c.args.bytes.now c.requires
