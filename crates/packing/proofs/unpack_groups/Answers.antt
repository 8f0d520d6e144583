-- `packing::unpack_groups` meets its contract: after g groups the first 8 g numbers are there.
use Rattle.lists.proofs.Kit.{refl, sym, ◌∙◌, arith}
use Rattle.lists.specs.Ranges.{Below}
use Rattle.packing.specs.Packing.{digits}
use Rattle.packing.proofs.Groups.{unpacked-on, group_fits}
use Rattle.packing.proofs.unpack_groups.Goals as goal

pub loop-g-init : goal.loop-g-init
unfolding digits
loop-g-init p c = (refl, refl)

pub unpack_group-requires : goal.unpack_group-requires
unpack_group-requires p c =
    let b = group_fits 7 c.requires.w_nonzero.0 (sym c.requires.bytes_value) c.saturating_sub.ensures c.loop-g-test.true in
    (omega arith, omega arith, b.0, omega (arith, b.1, c.loop-g.invariant.0))

pub loop-g-preserved : goal.loop-g-preserved
loop-g-preserved p c =
    let w = p.row.W in
    let l = c.loop-g in
    let b = group_fits 7 c.requires.w_nonzero.0 (sym c.requires.bytes_value) c.saturating_sub.ensures c.loop-g-test.true in
    let bytes : Below 256 c.args.bytes.now = record { below = λ n. omega (arith, c.type_inv.bytes n) } in
    let more = unpacked-on w l.g l.out bytes l.invariant.1 (omega (arith, b.1, l.invariant.0)) in
    (c.unpack_group.auto.out ∙ l.invariant.0, rw c.unpack_group.ensures more)
