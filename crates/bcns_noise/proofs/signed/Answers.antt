-- `bcns_noise::signed` meets its contract: the factor is 1 or -1.
use Rattle.lists.proofs.Kit.{arith}
use Rattle.std.proofs.Common.{◌%◌}
use Rattle.bcns_noise.proofs.{Sign.times}
use Rattle.bcns_noise.proofs.signed.Goals as goal

pub returns : goal.returns
returns c = times _ c.requires (c.args.last % 2) (omega arith)
