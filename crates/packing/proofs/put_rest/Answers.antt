-- `packing::put_rest` meets its contract: what the digits that are left would complete stays the same from turn to turn.
use Rattle.lists.proofs.Kit.{refl, sym, ◌∙◌, add-zero, mul-zero, arith, length-set}
use Rattle.packing.proofs.{Flow.fill, Flow.one, Flow.full}
use Rattle.packing.proofs.put_rest.Goals as goal

pub loop-i-init : goal.loop-i-init
loop-i-init c = (refl, c.requires, refl)

pub loop-i-preserved : goal.loop-i-preserved
loop-i-preserved c =
    let l = c.loop-i in
    let less = simp (mul-zero, add-zero) at (fill 256 1 l.v l.i l.out (omega arith) 0 (omega arith)) in
    (simp length-set l.invariant.0, omega arith, rw (one 256 l.v l.i l.out (omega arith)) (less ∙ l.invariant.2))

pub returns : goal.returns
returns c =
    let l = c.loop-i in
    sym (full 256 l.v l.i l.out (omega arith)) ∙ l.invariant.2

pub shape_of-out : goal.shape_of-out
shape_of-out c = c.loop-i.invariant.0
