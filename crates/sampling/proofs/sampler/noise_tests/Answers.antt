-- `sampling::sampler::noise_tests` meets its contract: by the family.
use Rattle.lists.proofs.Kit.{refl, ◌∙◌, sym}
use Rattle.refusals.proofs.{Laws.failed, Laws.went_on, Ends.given_up}
use Rattle.sampling.specs.Noise.{noise}
use Rattle.sampling.proofs.{Noising.tests_by}
use Rattle.sampling.proofs.sampler.noise_tests.Goals as goal

pub returns-in_err-noise_sizes-in-Bcns : goal.returns-in_err-noise_sizes-in-Bcns
returns-in_err-noise_sizes-in-Bcns c =
    given_up _ c.from_residual.ensures ∙ sym (failed _ c.in_err-noise_sizes-in-Bcns.ensures refl)
    ∙ tests_by c.args.s (noise c.args.bytes.now c.args.table.now) c.args.room (sym c.family.ensures ∙ c.in-Bcns.is)

pub returns-in_ok-noise_sizes-in-Bcns : goal.returns-in_ok-noise_sizes-in-Bcns
returns-in_ok-noise_sizes-in-Bcns c =
    c.table_ascends.ensures ∙ sym (went_on _ c.in_ok-noise_sizes-in-Bcns.ensures refl)
    ∙ tests_by c.args.s (noise c.args.bytes.now c.args.table.now) c.args.room (sym c.family.ensures ∙ c.in-Bcns.is)

pub returns-in-NewHope : goal.returns-in-NewHope
returns-in-NewHope c =
    c.noise_sizes-in-NewHope.ensures ∙ tests_by c.args.s _ _ (sym c.family.ensures ∙ c.in-NewHope.is)

pub returns-in-Frodo : goal.returns-in-Frodo
returns-in-Frodo c =
    c.noise_sizes-in-Frodo.ensures ∙ tests_by c.args.s _ _ (sym c.family.ensures ∙ c.in-Frodo.is)
