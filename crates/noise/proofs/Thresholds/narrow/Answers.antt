-- `noise::Thresholds::narrow` meets its contract.
use Rattle.lists.proofs.Kit.{◌∙◌, ap, arith, to_z-of_z, w16}
use Rattle.lists.proofs.Fill.{fill_start, fill-next, fill-whole}
use Rattle.noise.specs.Noise.{threshold_of_lem, frodo_noise_lem}
use Rattle.noise.proofs.Thresholds.narrow.Goals as goal

pub loop-i-init : goal.loop-i-init
loop-i-init g c = fill_start _ _

pub loop-i-preserved : goal.loop-i-preserved
loop-i-preserved g c =
    fill-next _ c.loop-i.invariant (omega arith)
    (to_z-of_z {w = w16} (record { sfits = c.value.type_inv })
    ∙ c.value.ensures
    ∙ ap (threshold_of_lem c.args.self.now.all c.args.self.now.bits) c.word.ensures)

pub returns : goal.returns
unfolding frodo_noise_lem
returns g c = fill-whole c.loop-i.invariant (omega arith) (omega arith)
