-- `exchange::answerer::grow_opened` meets its contract: the opening's refusal, or what is grown.
use Rattle.lists.proofs.Kit.{refl, sym, ◌∙◌}
use Rattle.refusals.proofs.{Ends.given_up, Laws.failed, Laws.went_on}
use Rattle.exchange.proofs.Answering.{seed-taken}
use Rattle.exchange.proofs.answerer.grow_opened.Goals as goal

pub returns-in_err-take_opening-clause-value : goal.returns-in_err-take_opening-clause-value
returns-in_err-take_opening-clause-value c =
    given_up _ c.from_residual.ensures ∙ sym (failed _ c.in_err-take_opening.ensures.value refl)

pub returns : goal.returns
returns c =
    let e = seed-taken c.args.opening.now c.requires.1 in
    let v = rw e at c.grow.ensures.value in
    record { value = v ∙ sym (went_on _ c.in_ok-take_opening.ensures.value refl); numbers_value = λ h. rw e at (c.grow.ensures.numbers_value h) }
