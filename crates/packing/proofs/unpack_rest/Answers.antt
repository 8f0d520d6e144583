-- `packing::unpack_rest` meets its contract: the invariant is `Flow` at 8 bits in, with fewer than 32 bits held.
use Rattle.lists.proofs.Kit.{refl, ℕ, mod-lt, mul-one, mul-le-mul_left, le_of_mul-le-mul_left, lt_of_lt_of_le, arith}
use Rattle.std.proofs.Common.{◌≡◌, ◌+◌, ◌*◌, ◌%◌, ◌^◌, ◌≤◌, ◌<◌}
use Rattle.lists.proofs.Kit.{length, take, drop, pow_mono, pow_pos}
use Rattle.lists.specs.Ranges.{Below}
use Rattle.lists.proofs.Parts.{below-drop}
use Rattle.packing.specs.Packing.{value, unpacked}
use Rattle.packing.proofs.Flow.{Flow, take_in, emit, one, fits, all-out}
use Rattle.packing.proofs.{Laws.value-take-below, Groups.based, Groups.resume}
use Rattle.packing.proofs.unpack_rest.Goals as goal
use Rattle.packing.proofs.unpack_rest.Goals.{Start, In-loop-j, Joined-held-w, Then-held-w, then-held-w, else-held-w}

-- what is done had room
done-fits : (c : Start) → 8 * c.args.done ≤ length c.args.out.now
done-fits c =
    le_of_mul-le-mul_left {k = c.args.w} (omega (arith, c.requires.bytes_value, c.requires.done_in_bounds.0)) c.requires.w_nonzero.0

pub loop-j-init : goal.loop-j-init
loop-j-init c =
    let a = c.args in
    let bytes : Below 256 a.bytes.now = record { below = λ n. omega (arith, c.type_inv.bytes n) } in
    (omega arith, done-fits (goal.at.loop-j-init c).Start, resume 8 a.w bytes (a.w * a.done) (8 * a.done) refl (omega arith) (done-fits (goal.at.loop-j-init c).Start) c.requires.done_in_bounds.1)

-- where a number is still to come, so is a byte
byte-comes : (c : Then-held-w) → c.loop-j.i < length c.args.bytes.now
byte-comes c =
    let l = c.loop-j in
    let more : l.j + 1 ≤ length c.args.out.now = omega (arith, l.invariant.2.len) in
    omega (arith, c.requires.bytes_value, l.invariant.2.bits, mul-le-mul_left c.args.w more)

-- what holds once a word is taken in
taken : (c : In-loop-j) (x : ℕ)
    → let l = c.loop-j in
    let a = c.args in
    let acc = l.acc + x * 2 ^ l.held % 2 ^ 64 in
    x ≡ value 256 (take 4 (drop l.i a.bytes.now)) → Flow 8 a.w a.bytes.now (length a.out.now) l.out acc (l.held + 32) (l.i + 4) l.j
taken c x e =
    let l = c.loop-j in
    let bytes : Below 256 c.args.bytes.now = record { below = λ n. omega (arith, c.type_inv.bytes n) } in
    let small = rw (← e) at (value-take-below (below-drop bytes l.i) 4) in
    take_in l.invariant.2 4 32 x refl (omega arith) small e

pub overflow_add-acc : goal.overflow_add-acc
overflow_add-acc c = fits (taken (goal.at.overflow_add-acc c).In-loop-j _ c.word.ensures) (omega arith)

pub overflow_add-i : goal.overflow_add-i
overflow_add-i c = omega (arith, byte-comes (goal.at.overflow_add-i c).Then-held-w)

-- before a number is written, its bits are held
ready : (c : Joined-held-w)
    → let l = c.loop-j in
    let a = c.args in
    (a.w ≤ c.if-held-w.held) × (c.if-held-w.held < a.w + 32)
    × Flow 8 a.w a.bytes.now (length a.out.now) l.out c.if-held-w.acc c.if-held-w.held c.if-held-w.i l.j
ready c =
    elim c.if-held-w.branch [
      | then-held-w w ↦ rw (w.acc-is, w.held-is, w.i-is) (omega arith, omega arith, taken (goal.at.Joined-held-w c).In-loop-j _ w.word.ensures)
      | else-held-w w ↦ rw (w.acc-is, w.held-is, w.i-is) (omega arith, omega arith, c.loop-j.invariant.2)
    ]

pub nonzero_rem-out : goal.nonzero_rem-out
nonzero_rem-out c =
    let w = c.args.w in
    rw (based w (omega arith)) (pow_pos w)

pub overflow_cast-out : goal.overflow_cast-out
overflow_cast-out c =
    let w = c.args.w in
    let below = lt_of_lt_of_le (mod-lt c.if-held-w.acc (pow_pos w)) (pow_mono {j = 32} (omega arith)) in
    rw (based w (omega arith)) (record { fits = below })

pub overflow_sub-held : goal.overflow_sub-held
overflow_sub-held c = (ready (goal.at.overflow_sub-held c).Joined-held-w).0

pub loop-j-preserved : goal.loop-j-preserved
loop-j-preserved c =
    let r = ready (goal.at.loop-j-preserved c).Joined-held-w in
    let w = c.args.w in
    let stored = one (2 ^ w) c.if-held-w.acc c.loop-j.j c.loop-j.out (omega arith) in
    (omega arith, omega arith, rw (based w (omega arith), stored) (emit r.2 1 w (mul-one w) r.0 (omega arith)))

pub returns : goal.returns
unfolding unpacked
returns c = all-out c.loop-j.invariant.2 (omega arith)

pub word-requires : goal.word-requires
word-requires c = omega (arith, byte-comes (goal.at.word-requires c).Then-held-w)

pub shape_of-out : goal.shape_of-out
shape_of-out c = c.loop-j.invariant.2.len
