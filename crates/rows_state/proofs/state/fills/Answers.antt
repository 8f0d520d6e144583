-- `rows_state::state::fills` meets its contract: one test after the other.
use Rattle.lists.proofs.Kit.{refl, arith, le-leb, lt-leb}
use Rattle.rows_state.specs.State.{fills}
use Rattle.rows_state.proofs.{Tests.stops, Tests.goes, Tests.square}
use Rattle.rows_state.proofs.state.fills.Goals as goal

pub overflow_add-result : goal.overflow_add-result
overflow_add-result c = record { fits = omega (arith, square c.args.n c.requires.1, c.requires.2) }

pub returns : goal.returns
unfolding fills
returns c =
    goes (le-leb 1 c.args.m (omega (arith, c.if-m-lt1.false))) refl

pub returns-then-m-lt1 : goal.returns-then-m-lt1
returns-then-m-lt1 c = unfold fills in stops _ (lt-leb 1 c.args.m c.if-m-lt1.true)
