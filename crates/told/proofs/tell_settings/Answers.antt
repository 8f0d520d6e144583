-- `told::tell_settings` meets its contract, by the answer's case.
use Rattle.told.proofs.tell_settings.Goals as goal

pub returns-in-Ok : goal.returns-in-Ok
returns-in-Ok c =
    rw (c.in-Ok.is, c.tell_verdict.ensures.0, c.tell_verdict.ensures.1)

pub returns-in-Err : goal.returns-in-Err
returns-in-Err c =
    rw (c.in-Err.is, c.tell_verdict-in-Err.ensures.0, c.tell_verdict-in-Err.ensures.1, c.format.ensures, c.refusal.ensures)
