-- `rows_state::part::hold` meets its contract: the words, then the count.
use Rattle.lists.proofs.Kit.{arith, length, length-set, length-append, length-take, length-drop}
use Rattle.std.proofs.Common.{◌+◌, ◌≤◌}
use Rattle.rows_state.proofs.{Tests.square, Taking.hold_at}
use Rattle.rows_state.proofs.part.hold.Goals as goal
use Rattle.rows_state.proofs.part.hold.Goals.{Start}

inside : (s : Start) → s.args.at + length s.args.p.now ≤ 746496
inside s = omega (arith, s.requires.sized.3, square s.args.n s.requires.sized.0.few)

pub shape_of-state : goal.shape_of-state
shape_of-state c = simp (length-set, length-append, length-take, length-drop) (omega (arith, c.put_words.auto.out, c.requires.sized.0.long))

pub returns : goal.returns
returns c =
    hold_at c.args.n c.args.state.now c.requires.sized.0 c.args.p.now c.args.at _ c.requires.sized.1 c.put_words.ensures

pub overflow_add-state : goal.overflow_add-state
overflow_add-state c = record { fits = omega (arith, inside (goal.at.overflow_add-state c).Start, c.requires.sized.0.few) }

pub overflow_cast-state : goal.overflow_cast-state
overflow_cast-state c = record { fits = omega (arith, inside (goal.at.overflow_cast-state c).Start, c.requires.sized.0.few) }
