-- `packing::pack_rest` meets its contract: the invariant is `Flow` at 8 bits out, with fewer than 32 bits held.
use Rattle.lists.proofs.Kit.{refl, sym, ◌∙◌, mul-one, le_of_mul-le-mul_left, arith, length, get_or}
use Rattle.std.proofs.Common.{◌≡◌, ◌+◌, ◌*◌, ◌/◌, ◌%◌, ◌^◌, ◌≤◌}
use Rattle.packing.specs.Packing.{packed}
use Rattle.packing.proofs.Flow.{Flow, take_in, emit, fits, room, all_in}
use Rattle.packing.proofs.{Laws.value-one, Groups.resume}
use Rattle.packing.proofs.pack_rest.Goals as goal
use Rattle.packing.proofs.pack_rest.Goals.{In-loop-i, Start, Then-held-ge32, then-held-ge32, else-held-ge32}

-- what is done was there
done-fits : (c : Start) → 8 * c.args.done ≤ length c.args.xs.now
done-fits c =
    le_of_mul-le-mul_left {k = c.args.w} (omega (arith, c.requires.xs_value, c.requires.done_in_bounds.0)) c.requires.w_nonzero.0

pub loop-i-init : goal.loop-i-init
loop-i-init c =
    let a = c.args in
    (omega arith, done-fits (goal.at.loop-i-init c).Start, resume a.w 8 c.requires.w_nonzero.2 (8 * a.done) (a.w * a.done) refl (omega arith) c.requires.done_in_bounds.0 c.requires.done_in_bounds.1)

pub overflow_cast-acc : goal.overflow_cast-acc
overflow_cast-acc c = omega (arith, c.type_inv.xs c.loop-i.i)

-- what holds once the number is taken in
taken : (c : In-loop-i)
    → let l = c.loop-i in
    let a = c.args in
    let acc = l.acc + get_or a.xs.now l.i 0 * 2 ^ l.held % 2 ^ 64 in
    Flow a.w 8 a.xs.now (length a.out.now) l.out acc (l.held + a.w) (l.i + 1) l.j
taken c =
    let l = c.loop-i in
    let w = c.args.w in
    take_in l.invariant.2 1 w _ (mul-one w) (omega arith) (c.requires.w_nonzero.2.below l.i) (sym (value-one (2 ^ w) c.args.xs.now l.i))

pub overflow_add-acc : goal.overflow_add-acc
overflow_add-acc c = fits (taken (goal.at.overflow_add-acc c).In-loop-i) (omega arith)

-- where a word is held, there is room for it
word_fits : (c : Then-held-ge32)
    → c.loop-i.j + 4 ≤ length c.args.out.now
word_fits c = omega (arith, room (taken (goal.at.Then-held-ge32 c).In-loop-i) (omega arith) c.requires.xs_value)

pub put_word-requires : goal.put_word-requires
put_word-requires c = omega (arith, word_fits (goal.at.put_word-requires c).Then-held-ge32, c.loop-i.invariant.2.len)

pub overflow_add-j : goal.overflow_add-j
overflow_add-j c = omega (arith, word_fits (goal.at.overflow_add-j c).Then-held-ge32)

pub loop-i-preserved : goal.loop-i-preserved
loop-i-preserved c =
    let f = taken (goal.at.loop-i-preserved c).In-loop-i in
    elim c.if-held-ge32.branch [
      | then-held-ge32 w ↦
          let r : c.loop-i.j + 4 ≤ length c.args.out.now = omega (arith, room f (omega arith) c.requires.xs_value) in
          rw (w.out-is, w.acc-is, w.held-is, w.j-is) (omega arith, omega arith, rw w.put_word.ensures (emit f 4 32 refl w.if-held-ge32.true r))
      | else-held-ge32 w ↦ rw (w.out-is, w.acc-is, w.held-is, w.j-is) (omega arith, omega arith, f)
    ]

pub put_rest-requires : goal.put_rest-requires
put_rest-requires c =
    let f = c.loop-i.invariant.2 in
    omega (arith, room f c.loop-i.invariant.1 c.requires.xs_value, f.len)

pub shape_of-out : goal.shape_of-out
shape_of-out c = c.put_rest.auto.out ∙ c.loop-i.invariant.2.len

pub returns : goal.returns
unfolding packed
returns c =
    let n : c.args.w * length c.args.xs.now / 8 ≡ length c.args.out.now = omega (arith, c.requires.xs_value) in
    rw n (c.put_rest.ensures ∙ all_in c.loop-i.invariant.2 (omega arith))
