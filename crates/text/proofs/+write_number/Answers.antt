-- `text::write_number` meets its contract: the number falls at each call of itself.
use Rattle.lists.proofs.Kit.{ℕ, arith}
use Rattle.text.proofs.Writing.{one-room, one_written, more_room, Ending, ending}
use Rattle.text.proofs.+write_number.Goals as goal
use Rattle.text.proofs.+write_number.Goals.{After-write_number-end}

pub bounds-out-at : goal.bounds-out-at
bounds-out-at t c = one-room c.args.n c.args.out.now c.args.at c.requires (omega arith)

pub returns-then-n-lt10 : goal.returns-then-n-lt10
returns-then-n-lt10 t c = one_written c.args.n c.args.out.now c.args.at c.requires c.if-n-lt10.true

pub write_number-end-requires : goal.write_number-end-requires
write_number-end-requires t c = (omega arith, omega (arith, more_room c.args.n c.args.out.now c.args.at c.requires (omega arith) (omega arith)))

-- the last digit has room behind the others
made : (t : ℕ) (c : After-write_number-end t) → Ending c.args.n c.args.out.now c.args.at c.write_number-end.new.out c.write_number-end.result
made t c = ending c.args.n c.args.out.now c.args.at c.requires (omega arith) (omega arith) c.write_number-end.ensures

pub bounds-out-end : goal.bounds-out-end
bounds-out-end t c = (made t (goal.at.bounds-out-end t c).After-write_number-end).room

pub returns : goal.returns
returns t c = (made t (goal.at.returns t c).After-write_number-end).done
