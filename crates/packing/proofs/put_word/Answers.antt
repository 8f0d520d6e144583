-- `packing::put_word` meets its contract: what lies above four bytes does not touch them.
use Rattle.lists.proofs.Kit.{◌∙◌, sym, arith}
use Rattle.std.proofs.Common.{◌≡◌, ◌+◌, ◌*◌, ◌/◌, ◌%◌}
use Rattle.packing.specs.Packing.{digits}
use Rattle.packing.proofs.{Laws.digits_low, Groups.copied, Groups.bytes-are}
use Rattle.packing.proofs.put_word.Goals as goal

pub returns : goal.returns
returns c =
    let v = c.args.v in
    let word = v % 4294967296 in
    let parts : word + 4294967296 * (v / 4294967296) ≡ v = omega arith in
    let low : digits 256 4 word ≡ digits 256 4 v = rw parts at (sym (digits_low 256 4 word (v / 4294967296) (omega arith))) in
    copied 4 v c.args.j c.args.out.now (c.copy_from_slice.ensures.after ∙ c.to_le_bytes.ensures ∙ bytes-are 4 word ∙ low)
