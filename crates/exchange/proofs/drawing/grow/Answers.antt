-- `exchange::drawing::grow` meets its contract: Grow's answer.
use Rattle.lists.proofs.Kit.{◌∙◌}
use Rattle.refusals.proofs.Ends.{given_up}
use Rattle.exchange.proofs.Grown.{grow-failed, grow-passed}
use Rattle.exchange.proofs.drawing.grow.Goals as goal

pub returns-in_err-grow-clause-value : goal.returns-in_err-grow-clause-value
returns-in_err-grow-clause-value c =
    let h = c.requires in
    given_up _ c.from_residual.ensures ∙ grow-failed _ _ h.0 h.1 h.2 c.grow.result _ c.grow.ensures c.in_err-grow.was

pub returns : goal.returns
returns c =
    let h = c.requires in
    let p = grow-passed _ _ h.0 h.1 h.2 c.grow.result _ c.grow.ensures c.in_ok-grow.was in
    record { value = p.0; numbers_value = λ _. p.1 }
