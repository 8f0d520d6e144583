-- `packing::pack_words` meets its contract: after j turns the first 4 j bytes are there.
use Rattle.lists.proofs.Kit.{refl, ◌∙◌, arith, length}
use Rattle.std.proofs.Common.{◌≡◌, ◌*◌, ◌/◌, ◌≤◌}
use Rattle.packing.specs.Packing.{value, digits}
use Rattle.packing.proofs.{Groups.words-on, Groups.fewer}
use Rattle.packing.proofs.pack_words.Goals as goal

pub loop-j-init : goal.loop-j-init
unfolding digits
loop-j-init c = (refl, omega arith, refl)

pub overflow_cast-xs : goal.overflow_cast-xs
overflow_cast-xs c = omega (arith, c.type_inv.xs c.loop-j.j)

pub put_word-requires : goal.put_word-requires
put_word-requires c =
    omega (arith, c.requires.xs_value, c.loop-j.invariant.0)

pub loop-j-preserved : goal.loop-j-preserved
loop-j-preserved c =
    let put = c.put_word in
    let more = words-on c.loop-j.j c.loop-j.out c.requires.below c.loop-j.invariant.2 (omega (arith, c.requires.xs_value, c.loop-j.invariant.0)) in
    (put.auto.out ∙ c.loop-j.invariant.0, omega arith, rw put.ensures more)

pub returns : goal.returns
returns c =
    let l = c.loop-j in
    let n = length c.args.xs.now in
    let all : l.j ≡ n = omega arith in
    let whole : 32 * (n / 8) ≤ 4 * n = omega arith in
    (omega (arith, c.requires.xs_value), fewer 256 (value 4294967296 c.args.xs.now) (32 * (n / 8)) (4 * n) l.out (rw all at l.invariant.2) whole)

pub shape_of-out : goal.shape_of-out
shape_of-out c = c.loop-j.invariant.0
