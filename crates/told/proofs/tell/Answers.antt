-- `told::tell` meets its contract, by the answer's case.
use Rattle.told.proofs.tell.Goals as goal

pub returns-in-Err : goal.returns-in-Err
returns-in-Err c =
    rw (c.in-Err.is, c.number.ensures, c.place.ensures)
