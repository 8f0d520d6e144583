-- `bcns_noise::value` meets its contract: eight limbs of three bytes, a count and a sign.
use Rattle.lists.proofs.Kit.{◌∙◌, to_z-of_z, w32}
use Rattle.bcns_noise.proofs.{Limbs.eight-below, Limbs.number-eight, Limbs.value-is}
use Rattle.bcns_noise.proofs.value.Goals as goal

pub returns : goal.returns
returns c =
    to_z-of_z {w = w32} (record { sfits = c.signed.type_inv })
    ∙ c.signed.ensures
    ∙ value-is c.requires.0 c.requires.1 (eight-below c.three.ensures.1 c.three-2.ensures.1 c.three-3.ensures.1 c.three-4.ensures.1 c.three-5.ensures.1 c.three-6.ensures.1 c.three-7.ensures.1 c.three-8.ensures.1) c.args.bytes.now c.args.k
    (number-eight c.args.bytes.now _ c.three.ensures.0 c.three-2.ensures.0 c.three-3.ensures.0 c.three-4.ensures.0 c.three-5.ensures.0 c.three-6.ensures.0 c.three-7.ensures.0 c.three-8.ensures.0) c.count.ensures.0
