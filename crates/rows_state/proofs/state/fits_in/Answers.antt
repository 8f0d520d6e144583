-- `rows_state::state::fits_in` meets its contract: one test after the other.
use Rattle.lists.proofs.Kit.{refl, arith, mod-lt, le-leb, lt-leb}
use Rattle.std.proofs.Common.{◌+◌, ◌%◌, ◌<◌, ◌≤◌}
use Rattle.rows_state.specs.State.{fits_in_lem}
use Rattle.rows_state.proofs.{Tests.stops, Tests.goes, Tests.square}
use Rattle.rows_state.proofs.state.fits_in.Goals as goal

pub returns-then-left-m : goal.returns-then-left-m
unfolding fits_in_lem
returns-then-left-m c =
    let h : c.args.n < c.args.at % c.args.n + c.args.m = omega (arith, mod-lt c.args.at c.requires.0, c.if-left-m.true) in
    stops _ (lt-leb _ _ h)

pub overflow_add-result : goal.overflow_add-result
overflow_add-result c = record { fits = omega (arith, square c.args.n c.requires.1, c.requires.1, c.requires.2, c.if-left-m.false) }

pub returns : goal.returns
unfolding fits_in_lem
returns c =
    let h : c.args.at % c.args.n + c.args.m ≤ c.args.n = omega (arith, mod-lt c.args.at c.requires.0, c.if-left-m.false) in
    goes (le-leb _ _ h) refl

pub overflow_sub-left : goal.overflow_sub-left
overflow_sub-left c = omega (arith, mod-lt c.args.at c.requires.0)

pub overflow_mul-result : goal.overflow_mul-result
overflow_mul-result c = record { fits = omega (arith, square c.args.n c.requires.1) }
