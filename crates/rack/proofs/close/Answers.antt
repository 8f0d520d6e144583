-- `rack::close` meets its contract: 16, 10, or the slot's number and zeros.
use Rattle.lists.proofs.Kit.{true, arith, rules}
use Rattle.refusals.proofs.Ends.{given_up}
use Rattle.rack.proofs.{Parts.slot-rack, Calls.close-stopped, Calls.closed}
use Rattle.rack.proofs.close.Goals as goal

pub returns-in_err-at : goal.returns-in_err-at
returns-in_err-at c = rw (given_up _ c.from_residual.ensures) (close-stopped c.args.bytes.now c.args.studio c.in_err-at.ensures)

pub slice_bounds-fill-end : goal.slice_bounds-fill-end
slice_bounds-fill-end c = let l = slot-rack c.args.bytes.now c.args.studio true c.in_ok-at.ensures.0 in omega (arith, c.in_ok-at.ensures.1, l.0, l.1)

pub overflow_cast-bytes : goal.overflow_cast-bytes
overflow_cast-bytes c = let l = slot-rack c.args.bytes.now c.args.studio true c.in_ok-at.ensures.0 in omega (arith, l.0)

pub bounds-bytes-at : goal.bounds-bytes-at
bounds-bytes-at c = let l = slot-rack c.args.bytes.now c.args.studio true c.in_ok-at.ensures.0 in search (rules, c.in_ok-at.ensures.1, l.0, l.1)

pub returns : goal.returns
returns c = closed c.args.bytes.now c.args.studio c.in_ok-at.ensures.0 c.in_ok-at.ensures.1 (omega arith) (c.fill.ensures.after (λ y e. e))
