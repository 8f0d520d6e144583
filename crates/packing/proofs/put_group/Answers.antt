-- `packing::put_group` meets its contract: sixteen bytes of one number, of which a word holds each half.
use Rattle.lists.proofs.Kit.{arith}
use Rattle.std.proofs.Common.{◌≡◌, ◌+◌, ◌*◌, ◌-◌, ◌^◌}
use Rattle.packing.proofs.{Groups.shifted_fits, Groups.shifted-low, Groups.shifted-high, Groups.sixteen}
use Rattle.packing.proofs.put_group.Goals as goal
use Rattle.packing.proofs.put_group.Goals.{Start}

-- the two shifts are a word
word : (c : Start) → 64 - 4 * c.args.w + 4 * c.args.w ≡ 64
word c = omega arith

pub overflow_add-lower : goal.overflow_add-lower
overflow_add-lower c =
    record { fits = shifted_fits (4 * c.args.w) (64 - 4 * c.args.w) c.args.low c.args.high (word (goal.at.overflow_add-lower c).Start) c.requires.2 }

pub returns : goal.returns
returns c =
    let k = 4 * c.args.w in
    let n = 64 - k in
    let low = c.args.low in
    let high = c.args.high in
    sixteen (low + 2 ^ k * high) _ _ c.args.i c.args.out.now c.requires.3
    (shifted-low k n low high (word (goal.at.returns c).Start) c.requires.2)
    (shifted-high k n low high (word (goal.at.returns c).Start) c.requires.2)
    c.put_words.ensures
    c.put_words-2.ensures
