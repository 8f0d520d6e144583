-- `noise::newhope` meets its contract: it fills with the values of the bytes.
use Rattle.lists.proofs.Kit.{◌∙◌, ap₂, arith, to_z-of_z, w32}
use Rattle.lists.proofs.Fill.{fill_start, fill-next, fill-whole}
use Rattle.noise.specs.Noise.{ones_less_of, ones_less_lem, new_hope_noise}
use Rattle.noise.proofs.newhope.Goals as goal

pub loop-i-init : goal.loop-i-init
loop-i-init c = fill_start _ _

pub loop-i-preserved : goal.loop-i-preserved
unfolding ones_less_lem
loop-i-preserved c =
    fill-next _ c.loop-i.invariant (omega arith)
    (to_z-of_z {w = w32} (record { sfits = c.ones_less.type_inv })
    ∙ c.ones_less.ensures
    ∙ ap₂ ones_less_of c.word-first.ensures c.word-second.ensures)

pub returns : goal.returns
unfolding new_hope_noise
returns c = fill-whole c.loop-i.invariant (omega arith) (omega arith)
