-- `session_bytes::lay_out` meets its contract.
use Rattle.lists.proofs.Kit.{◌∙◌, sym, length, length-set, rules}
use Rattle.std.proofs.Common.{◌≡◌}
use Rattle.session_bytes.specs.Bytes.{bytes_of}
use Rattle.session_bytes.proofs.{Calls.part-128, Calls.laid}
use Rattle.session_bytes.proofs.lay_out.Goals as goal

pub copy_from_slice-requires : goal.copy_from_slice-requires
copy_from_slice-requires c =
    let h : length c.args.y.key ≡ 128 = search rules in
    part-128 c.args.bytes.now c.requires ∙ sym h

pub returns : goal.returns
unfolding bytes_of
returns c =
    let h : length c.args.y.key ≡ 128 = search rules in
    rw (c.stage_byte.ensures, c.scheme_byte.ensures.0) (laid c.args.bytes.now c.args.y.key _ _ _ c.requires h c.copy_from_slice.ensures.after)

pub bounds-bytes-1 : goal.bounds-bytes-1
bounds-bytes-1 c = simp length-set (search rules)
