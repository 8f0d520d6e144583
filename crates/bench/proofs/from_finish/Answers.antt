-- `bench::from_finish` meets its contract: Finish's refusal, or the slack that it used and its key.
use Rattle.refusals.proofs.Ends.{given_up}
use Rattle.finish.specs.Finish.{finish}
use Rattle.bench.proofs.{Answering.named, Answering.finish-refused, Answering.finish-done}
use Rattle.bench.proofs.from_finish.Goals as goal

pub returns-in_err-counts : goal.returns-in_err-counts
returns-in_err-counts c =
    let a = c.args in
    rw (given_up _ c.from_residual.ensures) (finish-refused a.scheme (finish a.reply.now a.s.now) (named a.scheme c.number.ensures) c.requires _ _ c.in_err-counts.ensures)

pub returns : goal.returns
returns c =
    let a = c.args in
    finish-done a.scheme (finish a.reply.now a.s.now) (named a.scheme c.number.ensures) c.requires _ _ _ c.in_ok-counts.ensures
