-- `newhope::term` meets its contract.
use Rattle.lists.proofs.Kit.{◌∙◌, ap, arith, pos, w32}
use Rattle.std.proofs.Common.{◌*◌, ◌-ℤ◌}
use Rattle.numbers.specs.Residue.{distance, apart}
use Rattle.numbers.proofs.{Nearest.distance-half, Machine.difference-handed}
use Rattle.newhope.specs.Group.{term_of}
use Rattle.newhope.proofs.term.Goals as goal

pub returns : goal.returns
unfolding term_of apart
returns c =
    let a = c.args in
    let e = c.distance32.ensures
    ∙ ap (distance 98312) (difference-handed w32 (8 * a.x) (12289 * a.c) c.minus.ensures (omega arith) (omega arith)) in
    (e, omega (arith, e, distance-half 98312 (omega arith) (pos (8 * a.x) -ℤ pos (12289 * a.c))))
