-- `transform::powered` meets its contract.
use Rattle.lists.proofs.Kit.{◌*◌, ◌-◌, ◌/◌, ◌≤◌, ◌<◌, arith}
use Rattle.transform.specs.Level.{powered}
use Rattle.transform.proofs.{Words.quotient-≤, Words.powered-lt, Words.wrapped-is}
use Rattle.transform.proofs.powered.Goals as goal

pub returns : goal.returns
unfolding powered
returns c =
    let w = c.args.w in
    let y = c.args.y in
    let q : y * c.args.f / 65536 * 12289 ≤ w * y = rw c.requires (quotient-≤ w y) in
    let l : w * y - y * c.args.f / 65536 * 12289 < 24578 = rw c.requires (powered-lt w y (omega arith)) in
    let r = wrapped-is (w * y) (y * c.args.f / 65536 * 12289) q (omega arith) in
    (rw (← c.requires) r, omega (arith, r))
