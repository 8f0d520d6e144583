-- `sponge::put` meets its contract: it fills eight bytes at a time, and then one.
use Rattle.lists.proofs.Kit.{refl, ◌∙◌, arith}
use Rattle.lists.proofs.Fill.{fill-next, fill-whole, rows_start, rows_next}
use Rattle.sponge.proofs.{Lanes.eight-bytes, Lanes.lane-bytes, Lanes.fill-again}
use Rattle.sponge.proofs.put.Goals as goal

pub loop-i-init : goal.loop-i-init
loop-i-init c = rows_start _ _ 8

pub loop-i-preserved : goal.loop-i-preserved
loop-i-preserved c =
    let i = c.loop-i.i in
    rows_next i 8 _ c.loop-i.invariant (omega arith)
    (c.copy_from_slice.ensures.after ∙ c.to_le_bytes.ensures ∙ eight-bytes _ ∙ lane-bytes c.args.s i)

pub loop-k-init : goal.loop-k-init
loop-k-init c =
    let l = c.loop-i in
    (l.invariant.long, fill-again _ _ _ _ _ l.invariant (omega arith))

pub loop-k-preserved : goal.loop-k-preserved
loop-k-preserved c =
    let l = c.loop-k in
    (l.invariant.0, fill-next _ l.invariant.1 (omega arith) refl)

pub shape_of-out : goal.shape_of-out
shape_of-out c =
    let l = c.loop-k in
    l.invariant.1.long ∙ l.invariant.0

pub returns : goal.returns
returns c =
    let l = c.loop-k in
    fill-whole l.invariant.1 l.invariant.0 (omega arith)
