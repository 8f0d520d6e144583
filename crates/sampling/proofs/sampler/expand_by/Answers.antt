-- `sampling::sampler::expand_by` meets its contract: zeros stay where a test fails.
use Rattle.refusals.proofs.Ends.{given_up}
use Rattle.sampling.proofs.Expanding.{sizes-failed}
use Rattle.sampling.proofs.sampler.expand_by.Goals as goal

pub returns-in_err-expand_sizes : goal.returns-in_err-expand_sizes
returns-in_err-expand_sizes c =
    rw (given_up _ c.from_residual.ensures) (sizes-failed c.args.name _ _ c.in_err-expand_sizes.ensures c.requires)
