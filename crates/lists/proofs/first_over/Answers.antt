-- `lists::first_over` meets its contract.
use Rattle.lists.proofs.Kit.{sym, arith}
use Rattle.lists.specs.First.{first_over_lem}
use Rattle.lists.proofs.{First.none_over}
use Rattle.lists.proofs.first_over.Goals as goal

-- by its bits
pub returns-then-bits_of-q : goal.returns-then-bits_of-q
returns-then-bits_of-q c =
    sym (none_over c.args.q c.args.xs.now (omega arith))

-- by its largest
pub returns-then-largest-q : goal.returns-then-largest-q
returns-then-largest-q c =
    sym (none_over c.args.q c.args.xs.now (omega arith))

pub returns : goal.returns
unfolding first_over_lem
returns c = c.search.ensures
