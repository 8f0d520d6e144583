-- `refusals::publics_before` meets its contract.
use Rattle.lists.proofs.Kit.{refl, sym, ◌∙◌}
use Rattle.refusals.proofs.{Laws.before-pass, Laws.before-fail, Laws.failed, Laws.went_on, Ends.given_up}
use Rattle.refusals.proofs.publics_before.Goals as goal

pub returns-in_err-publics_in : goal.returns-in_err-publics_in
returns-in_err-publics_in c =
    given_up _ c.from_residual.ensures ∙ sym (failed _ c.in_err-publics_in.ensures refl) ∙ before-fail _ c.in-Err.is

pub returns-in_ok-publics_in : goal.returns-in_ok-publics_in
returns-in_ok-publics_in c =
    sym (went_on _ c.in_ok-publics_in.ensures refl) ∙ before-fail _ c.in-Err.is

pub returns-in_default : goal.returns-in_default
returns-in_default c = before-pass _ c.in_default.is
