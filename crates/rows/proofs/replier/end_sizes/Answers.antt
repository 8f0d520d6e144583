-- `rows::replier::end_sizes` meets its contract: one test after the other.
use Rattle.lists.proofs.Kit.{refl, ◌∙◌}
use Rattle.refusals.specs.Refusals.{◌then◌}
use Rattle.refusals.proofs.Ends.{given_up}
use Rattle.rows.specs.Inside.{reply_end_sizes}
use Rattle.rows.proofs.replier.end_sizes.Goals as goal

pub is_complete-requires : goal.is_complete-requires
is_complete-requires c =
    rw c.fixed-f.ensures c.requires

pub returns-in_err-in_turn : goal.returns-in_err-in_turn
unfolding reply_end_sizes ◌then◌
returns-in_err-in_turn c = given_up _ c.from_residual.ensures ∙ rw (← c.fixed-f.ensures, ← c.is_complete.ensures, ← c.in_err-in_turn.ensures) refl

pub returns-in_err-room_for : goal.returns-in_err-room_for
unfolding reply_end_sizes ◌then◌
returns-in_err-room_for c = given_up _ c.from_residual-in_err-room_for.ensures ∙ rw (← c.fixed-f.ensures, ← c.is_complete.ensures, ← c.in_ok-in_turn.ensures, ← c.in_err-room_for.ensures) refl

pub returns-in_err-room_for-2 : goal.returns-in_err-room_for-2
unfolding reply_end_sizes ◌then◌
returns-in_err-room_for-2 c = given_up _ c.from_residual-in_err-room_for-2.ensures ∙ rw (← c.fixed-f.ensures, ← c.is_complete.ensures, ← c.in_ok-in_turn.ensures, ← c.in_ok-room_for.ensures, ← c.in_err-room_for-2.ensures) refl

pub returns : goal.returns
unfolding reply_end_sizes ◌then◌
returns c = c.room_for-3.ensures ∙ rw (← c.fixed-f.ensures, ← c.is_complete.ensures, ← c.in_ok-in_turn.ensures, ← c.in_ok-room_for.ensures, ← c.in_ok-room_for-2.ensures) refl
