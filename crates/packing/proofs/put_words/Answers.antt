-- `packing::put_words` meets its contract.
use Rattle.lists.proofs.Kit.{◌∙◌}
use Rattle.packing.proofs.Groups.{copied, bytes-are}
use Rattle.packing.proofs.put_words.Goals as goal

pub returns : goal.returns
returns c =
    let v = c.args.v in
    copied 8 v c.args.j c.args.out.now (c.copy_from_slice.ensures.after ∙ c.to_le_bytes.ensures ∙ bytes-are 8 v)
