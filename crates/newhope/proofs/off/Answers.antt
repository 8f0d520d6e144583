-- `newhope::off` meets its contract.
use Rattle.lists.proofs.Kit.{◌∙◌, ap, ℕ, arith, pos, nat_abs, w32}
use Rattle.std.proofs.Common.{◌+◌, ◌*◌, ◌-ℤ◌}
use Rattle.numbers.proofs.Machine.{difference-handed}
use Rattle.newhope.specs.Group.{off_of}
use Rattle.newhope.proofs.{Entry.off-half}
use Rattle.newhope.proofs.off.Goals as goal

pub returns : goal.returns
unfolding off_of
returns c =
    let a = c.args in
    let u = c.up-p in
    let e = c.size32.ensures
    ∙ ap nat_abs (difference-handed w32 (2 * (2 * a.x + a.b)) (12289 * u.result) c.minus.ensures (omega arith) (omega arith))
    ∙ ap (λ (p : ℕ). nat_abs (pos (2 * (2 * a.x + a.b)) -ℤ pos (12289 * p))) u.ensures.0 in
    (e, omega (arith, e, off-half a.b a.x))
