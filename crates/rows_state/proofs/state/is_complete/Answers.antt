-- `rows_state::state::is_complete` meets its contract: one test after the other.
use Rattle.lists.proofs.Kit.{refl, ◌∙◌, sym, true, arith}
use Rattle.std.proofs.Common.{◌≡◌}
use Rattle.rows_state.specs.State.{begun, complete}
use Rattle.rows_state.proofs.{Tests.stops, Tests.goes, Tests.started, Tests.square}
use Rattle.rows_state.proofs.state.is_complete.Goals as goal
use Rattle.rows_state.proofs.state.is_complete.Goals.{Else-not-has_begun}

begins : (c : Else-not-has_begun) → begun c.args.call c.args.f c.args.state.now ≡ true
begins c = sym c.has_begun.ensures ∙ c.if-not-has_begun.false

pub returns-then-not-has_begun : goal.returns-then-not-has_begun
unfolding complete
returns-then-not-has_begun c = stops _ (sym c.has_begun.ensures ∙ c.if-not-has_begun.true)

pub bounds-state-2 : goal.bounds-state-2
bounds-state-2 c = omega (arith, (started _ _ _ (begins (goal.at.bounds-state-2 c).Else-not-has_begun)).is-long)

pub overflow_cast-result : goal.overflow_cast-result
overflow_cast-result c = omega (arith, c.type_inv.state 2)

pub overflow_mul-result : goal.overflow_mul-result
overflow_mul-result c = record { fits = omega (arith, square c.args.f.n c.requires) }

pub returns : goal.returns
returns c = unfold complete in goes (begins (goal.at.returns c).Else-not-has_begun) refl
