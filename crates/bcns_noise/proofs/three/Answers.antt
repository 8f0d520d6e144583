-- `bcns_noise::three` meets its contract.
use Rattle.lists.proofs.Kit.{arith}
use Rattle.std.proofs.Common.{◌+◌}
use Rattle.bcns_noise.proofs.{Words.big-three}
use Rattle.bcns_noise.proofs.three.Goals as goal

pub returns : goal.returns
returns c =
    let e = c.from_be_bytes.ensures in
    let b = c.type_inv.bytes in
    let at = c.args.at in
    (omega (arith, e, big-three c.args.bytes.now at), omega (arith, e, b at, b (at + 1), b (at + 2)))
