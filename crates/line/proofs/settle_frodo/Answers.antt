-- `line::settle_frodo` meets its contract.
use Rattle.lists.proofs.Kit.{◌∙◌, arith}
use Rattle.std.proofs.lemmas.Result.{err_from_is_err_and}
use Rattle.line.proofs.Deciding.{Ready, ready, fitted, frodo-shown, frodo-refused}
use Rattle.line.proofs.settle_frodo.Goals as goal
use Rattle.line.proofs.settle_frodo.Goals.{In_ok-test}

fit : (c : In_ok-test) → Ready c.fixed-f.result.q c.interval-i.result c.fixed-f.result.keybits
fit c = ready c.args.scheme c.requires c.fixed-f.ensures c.interval-i.ensures

pub overflow_cast-v : goal.overflow_cast-v
overflow_cast-v c =
    let f = fit (goal.at.overflow_cast-v c).In_ok-test in
    omega (arith, fitted c.args.coin c.args.v c.args.w f c.in_ok-test.ensures, f.round.room)

pub overflow_cast-w : goal.overflow_cast-w
overflow_cast-w c =
    let f = fit (goal.at.overflow_cast-w c).In_ok-test in
    omega (arith, fitted c.args.coin c.args.v c.args.w f c.in_ok-test.ensures, f.round.room)

pub show_frodo-requires : goal.show_frodo-requires
show_frodo-requires c =
    let f = fit (goal.at.show_frodo-requires c).In_ok-test in
    let b = fitted c.args.coin c.args.v c.args.w f c.in_ok-test.ensures in
    (f.round, b.0, b.1)

pub returns-in_err-test : goal.returns-in_err-test
returns-in_err-test c =
    let p = err_from_is_err_and c.from_residual.result c.from_residual.ensures.1 in
    rw (p.1, p.2) (frodo-refused c.args.coin c.args.v c.args.w c.fixed-f.ensures c.in_err-test.ensures)

pub returns : goal.returns
returns c =
    c.show_frodo.ensures ∙ frodo-shown c.args.coin c.args.v c.args.w c.fixed-f.ensures c.interval-i.ensures c.in_ok-test.ensures
