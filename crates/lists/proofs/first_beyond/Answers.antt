-- `lists::first_beyond` meets its contract.
use Rattle.lists.proofs.Kit.{sym, arith, add-one}
use Rattle.lists.specs.First.{first_beyond_lem}
use Rattle.lists.proofs.{First.none-beyond}
use Rattle.lists.proofs.first_beyond.Goals as goal

pub returns-then-largest-bound : goal.returns-then-largest-bound
returns-then-largest-bound c =
    let a = c.args in
    sym (none-beyond a.bound a.s.now (omega arith))

pub returns : goal.returns
unfolding first_beyond_lem
returns c = rw add-one at c.search.ensures
