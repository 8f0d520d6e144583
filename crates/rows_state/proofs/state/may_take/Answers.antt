-- `rows_state::state::may_take` meets its contract: one test after the other.
use Rattle.lists.proofs.Kit.{◌∙◌, sym, true, arith}
use Rattle.std.proofs.Common.{◌≡◌}
use Rattle.rows_state.specs.State.{begun}
use Rattle.rows_state.proofs.{Tests.stops, Tests.goes, Tests.started}
use Rattle.rows_state.proofs.state.may_take.Goals as goal
use Rattle.rows_state.proofs.state.may_take.Goals.{Else-not-has_begun}

begins : (c : Else-not-has_begun) → begun c.args.call c.args.f c.args.state.now ≡ true
begins c = sym c.has_begun.ensures ∙ c.if-not-has_begun.false

pub returns-then-not-has_begun : goal.returns-then-not-has_begun
returns-then-not-has_begun c = stops _ (sym c.has_begun.ensures ∙ c.if-not-has_begun.true)

pub fits_in-requires : goal.fits_in-requires
fits_in-requires c =
    (c.requires.0, c.requires.1, (started _ _ _ (begins (goal.at.fits_in-requires c).Else-not-has_begun)).at-most)

pub bounds-state-2 : goal.bounds-state-2
bounds-state-2 c = omega (arith, (started _ _ _ (begins (goal.at.bounds-state-2 c).Else-not-has_begun)).is-long)

pub overflow_cast-state : goal.overflow_cast-state
overflow_cast-state c = omega (arith, c.type_inv.state 2)

pub returns : goal.returns
returns c = goes (begins (goal.at.returns c).Else-not-has_begun) c.fits_in.ensures
