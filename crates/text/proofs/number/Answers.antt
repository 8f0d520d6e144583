-- `text::number` meets its contract.
use Rattle.lists.proofs.Kit.{sym, ◌∙◌, arith, length, length-take, length-take-le}
use Rattle.std.proofs.Common.{◌+◌, ◌≤◌, ◌<◌}
use Rattle.lists.proofs.Parts.{part}
use Rattle.text.proofs.{Reading.number_size, Reading.number-found, Reading.number-other}
use Rattle.text.proofs.number.Goals as goal
use Rattle.text.proofs.number.Goals.{Then-well_formed}

-- the digits and the LF behind them lie within the input
size : (c : Then-well_formed)
    → let n = c.digits-n.result in
    (n ≤ 10) × (n < length (part c.args.s.now c.args.at)) × (c.args.at + n + 1 ≤ length c.args.s.now)
size c =
    number_size c.args.s.now c.args.at c.requires c.digits-n.ensures (sym c.if-well_formed.true ∙ c.well_formed-2.ensures)

pub slice_bounds-value-end : goal.slice_bounds-value-end
slice_bounds-value-end c = sym (length-take-le _ _ (omega (arith, (size (goal.at.slice_bounds-value-end c).Then-well_formed).1)))

pub value-requires : goal.value-requires
value-requires c = simp length-take (omega (arith, (size (goal.at.value-requires c).Then-well_formed).0))

pub overflow_add-result : goal.overflow_add-result
overflow_add-result c = omega (arith, (size (goal.at.overflow_add-result c).Then-well_formed).2)

pub overflow_add-result-then-well_formed : goal.overflow_add-result-then-well_formed
overflow_add-result-then-well_formed c = omega (arith, (size (goal.at.overflow_add-result-then-well_formed c).Then-well_formed).2)

pub returns-then-well_formed : goal.returns-then-well_formed
returns-then-well_formed c =
    number-found c.args.s.now c.args.at c.requires c.digits-n.ensures
    (sym c.if-well_formed.true ∙ c.well_formed-2.ensures) c.value.ensures

pub returns-else-well_formed : goal.returns-else-well_formed
returns-else-well_formed c =
    number-other c.args.s.now c.args.at c.requires (sym c.if-well_formed.false ∙ c.well_formed-2.ensures)
