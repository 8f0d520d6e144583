-- `rack::reply` meets its contract: 16, 10, or the session's call on the bytes behind the slot's number.
use Rattle.session.proofs.Laws.{reply-stops}
use Rattle.rack.proofs.{Calls.stopped, Calls.ends, Calls.called}
use Rattle.rack.proofs.reply.Goals as goal

pub returns-in-Err : goal.returns-in-Err
returns-in-Err c = stopped _ _ _ c.in-Err.ensures (reply-stops _ _ _ _ c.stop_reply.ensures)

pub slice_bounds-own-end : goal.slice_bounds-own-end
slice_bounds-own-end c = ends c.args.bytes.now c.args.studio c.in-Ok.ensures.0 c.in-Ok.ensures.1

pub returns-in-Ok : goal.returns-in-Ok
returns-in-Ok c = called c.args.bytes.now c.args.studio c.in-Ok.ensures.0 c.in-Ok.ensures.1 _ c.reply.ensures
