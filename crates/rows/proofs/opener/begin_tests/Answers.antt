-- `rows::opener::begin_tests` meets its contract: one test after the other.
use Rattle.lists.proofs.Kit.{refl, ◌∙◌, ap, arith}
use Rattle.std.proofs.Common.{◌≤◌}
use Rattle.schemes.specs.declared.Fixed.{Fixed}
use Rattle.refusals.specs.Refusals.{◌then◌}
use Rattle.refusals.proofs.Ends.{given_up}
use Rattle.rows.specs.Offer.{offer_begin_tests}
use Rattle.rows.proofs.opener.begin_tests.Goals as goal
use Rattle.rows.proofs.opener.begin_tests.Goals.{After-fixed-f}

few : (f : After-fixed-f) → f.fixed-f.result.n ≤ 864
few f = omega (arith, ap (λ (g : Fixed). g.n) f.fixed-f.ensures, f.requires)

pub overflow_mul-f : goal.overflow_mul-f
overflow_mul-f c = omega (arith, few (goal.at.overflow_mul-f c).After-fixed-f)

pub overflow_add-f : goal.overflow_add-f
overflow_add-f c = omega (arith, few (goal.at.overflow_add-f c).After-fixed-f)

pub returns-in_err-length_is : goal.returns-in_err-length_is
unfolding offer_begin_tests ◌then◌
returns-in_err-length_is c = given_up _ c.from_residual.ensures ∙ rw (← c.fixed-f.ensures, ← c.in_err-length_is.ensures) refl

pub returns-in_err-length_is-2 : goal.returns-in_err-length_is-2
unfolding offer_begin_tests ◌then◌
returns-in_err-length_is-2 c = given_up _ c.from_residual-in_err-length_is-2.ensures ∙ rw (← c.fixed-f.ensures, ← c.in_ok-length_is.ensures, ← c.in_err-length_is-2.ensures) refl

pub returns-in_err-length_is-3 : goal.returns-in_err-length_is-3
unfolding offer_begin_tests ◌then◌
returns-in_err-length_is-3 c = given_up _ c.from_residual-in_err-length_is-3.ensures ∙ rw (← c.fixed-f.ensures, ← c.in_ok-length_is.ensures, ← c.in_ok-length_is-2.ensures, ← c.in_err-length_is-3.ensures) refl

pub returns-in_err-length_is-4 : goal.returns-in_err-length_is-4
unfolding offer_begin_tests ◌then◌
returns-in_err-length_is-4 c = given_up _ c.from_residual-in_err-length_is-4.ensures ∙ rw (← c.fixed-f.ensures, ← c.in_ok-length_is.ensures, ← c.in_ok-length_is-2.ensures, ← c.in_ok-length_is-3.ensures, ← c.in_err-length_is-4.ensures) refl

pub returns-in_err-secrets_in : goal.returns-in_err-secrets_in
unfolding offer_begin_tests ◌then◌
returns-in_err-secrets_in c = given_up _ c.from_residual-in_err-secrets_in.ensures ∙ rw (← c.fixed-f.ensures, ← c.in_ok-length_is.ensures, ← c.in_ok-length_is-2.ensures, ← c.in_ok-length_is-3.ensures, ← c.in_ok-length_is-4.ensures, ← c.in_err-secrets_in.ensures) refl

pub returns : goal.returns
unfolding offer_begin_tests ◌then◌
returns c = c.secrets_in-2.ensures ∙ rw (← c.fixed-f.ensures, ← c.in_ok-length_is.ensures, ← c.in_ok-length_is-2.ensures, ← c.in_ok-length_is-3.ensures, ← c.in_ok-length_is-4.ensures, ← c.in_ok-secrets_in.ensures) refl
