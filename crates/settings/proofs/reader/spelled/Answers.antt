-- `settings::reader::spelled` meets its contract.
use Rattle.lists.proofs.Kit.{◌∙◌, sym, arith, length, length-take, length-take-le}
use Rattle.std.proofs.Common.{◌≤◌}
use Rattle.settings.proofs.{Steps.spelled-size}
use Rattle.settings.proofs.reader.spelled.Goals as goal
use Rattle.settings.proofs.reader.spelled.Goals.{Then-well_spelled}

-- the letters lie within the text
size : (c : Then-well_spelled)
    → (c.count_letters-n.result ≤ 16) × (c.count_letters-n.result ≤ length c.args.s.now)
size c =
    spelled-size c.args.s.now c.count_letters-n.ensures (sym c.if-well_spelled.true ∙ c.well_spelled.ensures)

pub slice_bounds-found-end : goal.slice_bounds-found-end
slice_bounds-found-end c = sym (length-take-le _ _ (size (goal.at.slice_bounds-found-end c).Then-well_spelled).1)

pub found-requires : goal.found-requires
found-requires c = simp length-take (omega (arith, (size (goal.at.found-requires c).Then-well_spelled).0))
