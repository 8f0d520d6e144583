-- `sampling::sampler::grow_from` meets its contract: what Expand promises of the bytes.
use Rattle.lists.proofs.Kit.{◌∙◌, ap, arith, length}
use Rattle.sponge.proofs.Output.{shake-length}
use Rattle.sampling.proofs.{Growing.bytes-sized}
use Rattle.sampling.proofs.sampler.grow_from.Goals as goal

pub expand_in-requires : goal.expand_in-requires
expand_in-requires c =
    let l = ap length c.shake128.ensures ∙ shake-length c.args.seed.now _ in
    record { out_value = bytes-sized c.args.name c.args.seed.now _ c.requires.out_value.0 _ (omega (arith, l, c.requires.out_value.1)); out_value_2 = c.requires.out_value_2 }

pub shape_of-bytes : goal.shape_of-bytes
shape_of-bytes c =
    ap length c.shake128.ensures ∙ shake-length c.args.seed.now _

pub returns : goal.returns
returns c =
    rw c.shake128.ensures at c.expand_in.ensures
