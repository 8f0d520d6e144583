-- `sampling::sampler::grow_by` meets its contract: zeros stay where a test fails.
use Rattle.refusals.proofs.Ends.{given_up}
use Rattle.sampling.proofs.Growing.{sizes-failed}
use Rattle.sampling.proofs.sampler.grow_by.Goals as goal

pub returns-in_err-grow_sizes : goal.returns-in_err-grow_sizes
returns-in_err-grow_sizes c =
    rw (given_up _ c.from_residual.ensures) (sizes-failed c.args.name _ _ c.in_err-grow_sizes.ensures c.requires)
