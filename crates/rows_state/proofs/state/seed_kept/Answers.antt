-- `rows_state::state::seed_kept` meets its contract: one test after the other.
use Rattle.lists.proofs.Kit.{◌∙◌, sym, ap, arith}
use Rattle.lists.proofs.Parts.{front_long, to_end}
use Rattle.rows_state.specs.State.{all_below}
use Rattle.rows_state.proofs.{Tests.stops, Tests.goes}
use Rattle.rows_state.proofs.state.seed_kept.Goals as goal

pub returns-then-not-all_below : goal.returns-then-not-all_below
returns-then-not-all_below c = stops _ (sym c.all_below.ensures ∙ c.if-not-all_below.true)

pub returns : goal.returns
returns c =
    goes (sym c.all_below.ensures ∙ c.if-not-all_below.false) (c.all_below-2.ensures ∙ ap (all_below 1) (to_end c.args.kept.now 16))

pub slice_bounds-all_below-end : goal.slice_bounds-all_below-end
slice_bounds-all_below-end c = sym (front_long 16 c.args.kept.now (omega (arith, c.requires)))
