-- `sponge::pad` meets its contract.
use Rattle.lists.proofs.Kit.{sym, arith, length}
use Rattle.std.proofs.Common.{◌+◌}
use Rattle.sponge.proofs.{Ending.front_fits, Ending.one-length, Ending.two-length, Ending.ending-one, Ending.ending-two}
use Rattle.sponge.proofs.pad.Goals as goal

pub slice_bounds-copy_from_slice-end-2 : goal.slice_bounds-copy_from_slice-end-2
slice_bounds-copy_from_slice-end-2 c =
    sym (front_fits _ (length c.args.block.now) (c.fill.ensures.after (λ y e. e)) (omega arith))

pub shape_of-block-then-n-room : goal.shape_of-block-then-n-room
shape_of-block-then-n-room c =
    one-length c.args.rest.now (length c.args.block.now) c.copy_from_slice.ensures.after (c.fill.ensures.after (λ y e. e)) (c.args.suffix + 128) (omega arith)

pub returns-then-n-room : goal.returns-then-n-room
returns-then-n-room c =
    ending-one c.args.rest.now (length c.args.block.now) c.copy_from_slice.ensures.after (c.fill.ensures.after (λ y e. e)) c.args.suffix c.if-n-room.true

pub bounds-block-room : goal.bounds-block-room
bounds-block-room c =
    let l = one-length c.args.rest.now (length c.args.block.now) c.copy_from_slice.ensures.after (c.fill.ensures.after (λ y e. e)) c.args.suffix (omega arith) in
    omega (arith, l)

pub shape_of-block : goal.shape_of-block
shape_of-block c =
    two-length c.args.rest.now (length c.args.block.now) c.copy_from_slice.ensures.after (c.fill.ensures.after (λ y e. e)) c.args.suffix _ 128 (omega arith)

pub returns : goal.returns
returns c =
    ending-two c.args.rest.now (length c.args.block.now) c.copy_from_slice.ensures.after (c.fill.ensures.after (λ y e. e)) c.args.suffix (omega arith)

pub copy_from_slice-requires : goal.copy_from_slice-requires
copy_from_slice-requires c = front_fits _ (length c.args.block.now) (c.fill.ensures.after (λ y e. e)) (omega arith)
