-- `halves::lay_second` meets its contract.
use Rattle.lists.proofs.Kit.{arith}
use Rattle.halves.proofs.{Columns.padded}
use Rattle.halves.proofs.lay_second.Goals as goal

pub returns : goal.returns
returns c =
    let l = c.loop-k in
    padded c.requires.in_bounds.1 c.requires.by_index l.invariant.0 (omega arith) l.invariant.1
