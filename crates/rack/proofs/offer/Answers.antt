-- `rack::offer` meets its contract: 16, 10, or the session's call on the bytes behind the slot's number.
use Rattle.session.proofs.Laws.{offer-stops}
use Rattle.rack.proofs.{Calls.stopped, Calls.ends, Calls.called}
use Rattle.rack.proofs.offer.Goals as goal

pub returns-in-Err : goal.returns-in-Err
returns-in-Err c = stopped _ _ _ c.in-Err.ensures (offer-stops _ _ _ _ c.stop.ensures)

pub slice_bounds-own-end : goal.slice_bounds-own-end
slice_bounds-own-end c = ends c.args.bytes.now c.args.studio c.in-Ok.ensures.0 c.in-Ok.ensures.1

pub returns-in-Ok : goal.returns-in-Ok
returns-in-Ok c = called c.args.bytes.now c.args.studio c.in-Ok.ensures.0 c.in-Ok.ensures.1 _ c.offer.ensures
