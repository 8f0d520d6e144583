-- `noise::Thresholds::fill` meets its contract: it stores the values of the words, some at a time.
use Rattle.lists.proofs.Kit.{arith, length}
use Rattle.std.proofs.Common.{◌≡◌, ◌*◌, ◌-◌, ◌/◌}
use Rattle.lists.proofs.Fill.{fill_start, fill-whole}
use Rattle.noise.specs.Noise.{frodo_noise_lem}
use Rattle.noise.proofs.{Blocks.made-next}
use Rattle.noise.proofs.Thresholds.fill.Goals as goal

pub loop-block-init : goal.loop-block-init
loop-block-init g c = fill_start _ _

pub loop-block-preserved : goal.loop-block-preserved
loop-block-preserved g c =
    made-next _ _ _ _ _ _ _ 64 _ _ _ c.loop-block.invariant (omega arith) (omega arith) (omega arith) (omega arith) (omega arith) c.some.ensures

pub returns : goal.returns
unfolding frodo_noise_lem
returns g c =
    let a = c.args in
    let n = length a.out.now - 64 * (length a.out.now / 64) in
    let all : c.loop-block.block ≡ length a.out.now / 64 = omega arith in
    let h = rw all at c.loop-block.invariant in
    let end = made-next a.self.now.all a.self.now.bits a.bytes.now a.out.now c.loop-block.out c.some-2.new.out (64 * (length a.out.now / 64)) n (length a.bytes.now - 2 * (64 * (length a.out.now / 64))) (length c.loop-block.out - 64 * (length a.out.now / 64)) (length a.out.now) h (omega arith) (omega arith) (omega arith) (omega (arith, h.long)) (omega arith) c.some-2.ensures in
    fill-whole end (omega arith) (omega arith)
