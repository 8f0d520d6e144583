-- `told::tell_bench` meets its contract, by the answer's case.
use Rattle.told.proofs.tell_bench.Goals as goal

pub differ_number-requires : goal.differ_number-requires
differ_number-requires c = rw c.in-Ok.is at c.requires

pub returns-in-Ok : goal.returns-in-Ok
returns-in-Ok c =
    rw (c.in-Ok.is, c.tell_verdict.ensures.0, c.tell_verdict.ensures.1, c.differ_number.ensures)

pub returns-in-Err : goal.returns-in-Err
returns-in-Err c =
    rw (c.in-Err.is, c.tell_verdict-in-Err.ensures.0, c.tell_verdict-in-Err.ensures.1)
