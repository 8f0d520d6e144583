-- `line::test` meets its contract: the tests one by one.
use Rattle.lists.proofs.Kit.{arith, lt-ltb, le-ltb}
use Rattle.line.specs.Steps.{tested}
use Rattle.line.proofs.Deciding.{outside}
use Rattle.line.proofs.test.Goals as goal

pub returns-then-most-coin : goal.returns-then-most-coin
unfolding tested
returns-then-most-coin c = rw (lt-ltb c.args.most c.args.coin (omega arith))

pub returns-then-q-v : goal.returns-then-q-v
returns-then-q-v c = outside _ _ _ _ _ (omega arith) c.then-q-v.either

pub returns : goal.returns
unfolding tested
returns c =
    let a = c.args in
    rw (le-ltb a.most a.coin (omega arith), lt-ltb a.v a.q (omega arith), lt-ltb a.w a.q (omega arith))
