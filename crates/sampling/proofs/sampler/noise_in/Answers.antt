-- `sampling::sampler::noise_in` meets its contract: zeros stay where a test fails, and are written over where none does.
use Rattle.lists.proofs.Kit.{sym}
use Rattle.refusals.proofs.{Ends.given_up, Seen.shown-passed, Seen.shown-failed}
use Rattle.sampling.proofs.sampler.noise_in.Goals as goal

pub returns-in_err-noise_tests : goal.returns-in_err-noise_tests
returns-in_err-noise_tests c =
    rw (given_up _ c.from_residual.ensures) (shown-failed _ _ _ (sym c.in_err-noise_tests.ensures) c.requires)

pub returns : goal.returns
returns c =
    let w = c.noise_values.ensures in
    shown-passed _ _ _ (sym c.in_ok-noise_tests.ensures) c.args.out.now (sym w.value) c.requires w.out_value
