-- `line::settle_bcns` meets its contract.
use Rattle.lists.proofs.Kit.{◌∙◌, arith}
use Rattle.bcns.specs.Rounding.{q}
use Rattle.std.proofs.lemmas.Result.{err_from_is_err_and}
use Rattle.line.proofs.Deciding.{passed, bcns-shown, bcns-refused}
use Rattle.line.proofs.settle_bcns.Goals as goal

pub returns-in_err-test : goal.returns-in_err-test
returns-in_err-test c =
    let p = err_from_is_err_and c.from_residual.result c.from_residual.ensures.1 in
    rw (p.1, p.2) (bcns-refused c.args.coin c.args.v c.args.w c.in_err-test.ensures)

pub overflow_cast-coin : goal.overflow_cast-coin
overflow_cast-coin c = omega (arith, passed 3 q c.args.coin c.args.v c.args.w c.in_ok-test.ensures)

pub overflow_cast-v : goal.overflow_cast-v
overflow_cast-v c = omega (arith, passed 3 q c.args.coin c.args.v c.args.w c.in_ok-test.ensures)

pub overflow_cast-w : goal.overflow_cast-w
overflow_cast-w c = omega (arith, passed 3 q c.args.coin c.args.v c.args.w c.in_ok-test.ensures)

pub show_bcns-requires : goal.show_bcns-requires
show_bcns-requires c = let p = passed 3 q c.args.coin c.args.v c.args.w c.in_ok-test.ensures in (p.1, p.2)

pub returns : goal.returns
returns c = c.show_bcns.ensures ∙ bcns-shown c.args.coin c.args.v c.args.w c.in_ok-test.ensures
