-- `sponge::squeeze` meets its contract: whole blocks of the output, then the last one.
use Rattle.lists.proofs.Kit.{◌∙◌, arith, length, length-take, length-drop, same_len_mid}
use Rattle.std.proofs.Common.{◌≡◌, ◌-◌, ◌*◌, ◌/◌}
use Rattle.sponge.proofs.Squeezing.{squeeze-none, squeeze-more, squeeze-all}
use Rattle.sponge.proofs.{Absorbing.block-fits, Absorbing.left-over}
use Rattle.sponge.proofs.squeeze.Goals as goal

pub put-requires : goal.put-requires
put-requires c = simp (length-take, length-drop) (omega arith)

pub loop-j-init : goal.loop-j-init
loop-j-init c = squeeze-none _ _ _

pub loop-j-preserved : goal.loop-j-preserved
loop-j-preserved c =
    let h = block-fits c.args.rate c.loop-j.j c.saturating_sub.result c.loop-j-test.true in
    squeeze-more c.loop-j.invariant c.put.new.out c.permute-u.result (omega arith) c.put.ensures c.permute-u.ensures

pub put-requires-2 : goal.put-requires-2
put-requires-2 c =
    let h = left-over c.args.rate c.saturating_sub.result c.requires.some in
    simp (length-take, length-drop) (omega (arith, h))

pub shape_of-out : goal.shape_of-out
shape_of-out c =
    let p = c.put-2 in
    let at = c.saturating_sub.result / c.args.rate * c.args.rate in
    same_len_mid at (length c.loop-j.out - at) c.loop-j.out p.new.out p.auto.out ∙ c.loop-j.invariant.filled.long

pub returns : goal.returns
returns c =
    let p = c.put-2 in
    let e : c.loop-j.j ≡ c.saturating_sub.result / c.args.rate = omega arith in
    let h = left-over c.args.rate c.saturating_sub.result c.requires.some in
    squeeze-all (rw e at c.loop-j.invariant) p.new.out (omega (arith, h)) p.ensures
