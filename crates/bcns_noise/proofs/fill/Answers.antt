-- `bcns_noise::fill` meets its contract: it fills with the values of the bytes.
use Rattle.lists.proofs.Kit.{◌∙◌, arith, to_z-of_z, w32}
use Rattle.lists.proofs.Fill.{fill_start, fill-next, fill-whole}
use Rattle.bcns_noise.specs.Noise.{bcns_noise_lem}
use Rattle.bcns_noise.proofs.fill.Goals as goal

pub loop-i-init : goal.loop-i-init
loop-i-init c = fill_start _ _

pub loop-i-preserved : goal.loop-i-preserved
loop-i-preserved c =
    fill-next _ c.loop-i.invariant (omega arith) (to_z-of_z {w = w32} (record { sfits = c.value.type_inv }) ∙ c.value.ensures)

pub returns : goal.returns
unfolding bcns_noise_lem
returns c = fill-whole c.loop-i.invariant (omega arith) (omega arith)
