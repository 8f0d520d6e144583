-- `packing::pack_groups` meets its contract: after g groups the first w g bytes are there.
use Rattle.lists.proofs.Kit.{refl, ◌∙◌, mul-zero, arith}
use Rattle.std.proofs.Common.{◌*◌, ◌-◌}
use Rattle.packing.specs.Packing.{digits}
use Rattle.packing.proofs.Groups.{packed-on, quad-below, two-quads, group_fits}
use Rattle.packing.proofs.pack_groups.Goals as goal

pub loop-g-init : goal.loop-g-init
unfolding digits
loop-g-init p c = (refl, simp mul-zero)

pub quad-low-requires : goal.quad-low-requires
quad-low-requires p c =
    let b = group_fits (16 - p.row.W) c.requires.w_nonzero.0 c.requires.xs_value c.saturating_sub.ensures c.loop-g-test.true in
    (omega arith, c.requires.w_nonzero.2, omega (arith, b.1))

pub quad-high-requires : goal.quad-high-requires
quad-high-requires p c =
    let b = group_fits (16 - p.row.W) c.requires.w_nonzero.0 c.requires.xs_value c.saturating_sub.ensures c.loop-g-test.true in
    (omega arith, c.requires.w_nonzero.2, omega (arith, b.1))

pub put_group-requires : goal.put_group-requires
put_group-requires p c =
    let b = group_fits (16 - p.row.W) c.requires.w_nonzero.0 c.requires.xs_value c.saturating_sub.ensures c.loop-g-test.true in
    let low = rw (← c.quad-low.ensures) at (quad-below p.row.W c.requires.w_nonzero.2 (8 * c.loop-g.g)) in
    (omega arith, omega arith, low, omega (arith, b.0, c.loop-g.invariant.0))

pub loop-g-preserved : goal.loop-g-preserved
loop-g-preserved p c =
    let w = p.row.W in
    let l = c.loop-g in
    let b = group_fits (16 - p.row.W) c.requires.w_nonzero.0 c.requires.xs_value c.saturating_sub.ensures c.loop-g-test.true in
    let group = two-quads w (8 * l.g) c.args.xs.now c.quad-low.result c.quad-high.result c.quad-low.ensures c.quad-high.ensures in
    let more = packed-on w l.g l.out c.requires.w_nonzero.1 c.requires.w_nonzero.2 l.invariant.1 (omega (arith, b.0, l.invariant.0)) _ group in
    (c.put_group.auto.out ∙ l.invariant.0, rw c.put_group.ensures more)
