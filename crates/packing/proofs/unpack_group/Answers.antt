-- `packing::unpack_group` meets its contract: after k turns k numbers are written.
use Rattle.lists.proofs.Kit.{refl, mul-le-mul_right, arith, drop, length-set}
use Rattle.std.proofs.Common.{◌≡◌, ◌*◌, ◌^◌, ◌≤◌}
use Rattle.packing.specs.Packing.{value}
use Rattle.packing.proofs.{Groups.written_none, Groups.stored}
use Rattle.packing.proofs.unpack_group.Goals as goal
use Rattle.packing.proofs.unpack_group.Goals.{In-loop-k}

pub loop-k-init : goal.loop-k-init
loop-k-init c =
    let a = c.args in
    (omega arith, refl, written_none (2 ^ a.w) (value 256 (drop a.i a.bytes.now)) a.j a.out.now)

-- the last of the eight starts within the group's bytes
starts : (c : In-loop-k) → c.loop-k.k * c.args.w ≤ 7 * c.args.w
starts c = mul-le-mul_right c.args.w (omega arith)

pub number-requires : goal.number-requires
number-requires c = (omega arith, omega (arith, starts (goal.at.number-requires c).In-loop-k))

pub loop-k-preserved : goal.loop-k-preserved
loop-k-preserved c =
    let l = c.loop-k in
    let all = stored c.args.w l.k (value 256 (drop c.args.i c.args.bytes.now)) c.args.j c.number.result c.args.out.now (omega arith) c.number.ensures l.invariant.2 in
    (omega arith, simp length-set l.invariant.1, all)

pub returns : goal.returns
returns c =
    let e : c.loop-k.k ≡ 8 = omega arith in
    rw e at c.loop-k.invariant.2

pub overflow_mul-k : goal.overflow_mul-k
overflow_mul-k c = omega (arith, starts (goal.at.overflow_mul-k c).In-loop-k)

pub shape_of-out : goal.shape_of-out
shape_of-out c = c.loop-k.invariant.1
