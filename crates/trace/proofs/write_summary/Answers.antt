-- `trace::write_summary` meets its contract.
use Rattle.lists.proofs.Kit.{arith}
use Rattle.trace.proofs.Writing.{blocks-none, blocks-room, blocks_more, blocks-all}
use Rattle.trace.proofs.write_summary.Goals as goal

pub loop-scheme-init : goal.loop-scheme-init
loop-scheme-init c = blocks-none c.args.tallies c.args.out.now c.requires

pub write_block-at-requires : goal.write_block-at-requires
write_block-at-requires c = blocks-room c.loop-scheme.invariant (omega arith)

pub loop-scheme-preserved : goal.loop-scheme-preserved
loop-scheme-preserved c =
    blocks_more c.loop-scheme.invariant (omega arith) c.write_block-at.ensures

pub returns : goal.returns
returns c = blocks-all c.loop-scheme.invariant c.loop-scheme-test.false

pub shape_of-out : goal.shape_of-out
shape_of-out c = c.loop-scheme.invariant.left.long
