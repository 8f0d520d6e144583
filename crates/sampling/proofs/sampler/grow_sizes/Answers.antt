-- `sampling::sampler::grow_sizes` meets its contract.
use Rattle.lists.proofs.Kit.{refl, sym, ◌∙◌}
use Rattle.refusals.proofs.{Laws.failed, Laws.went_on, Ends.given_up}
use Rattle.sampling.specs.Steps.{grow_sizes_lem}
use Rattle.sampling.proofs.sampler.grow_sizes.Goals as goal

pub returns-in_err-length_is : goal.returns-in_err-length_is
unfolding grow_sizes_lem
returns-in_err-length_is c = given_up _ c.from_residual.ensures ∙ sym (failed _ c.in_err-length_is.ensures refl)

pub returns : goal.returns
unfolding grow_sizes_lem
returns c = c.room_for.ensures ∙ sym (went_on _ c.in_ok-length_is.ensures refl)
