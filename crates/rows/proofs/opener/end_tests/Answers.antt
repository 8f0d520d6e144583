-- `rows::opener::end_tests` meets its contract: its turn, then the room.
use Rattle.lists.proofs.Kit.{refl, ◌∙◌}
use Rattle.refusals.specs.Refusals.{◌then◌}
use Rattle.refusals.proofs.Ends.{given_up}
use Rattle.rows.specs.Inside.{offer_end_sizes}
use Rattle.rows.proofs.opener.end_tests.Goals as goal

pub is_complete-requires : goal.is_complete-requires
is_complete-requires c =
    rw c.fixed-f.ensures c.requires

pub returns-in_err-in_turn : goal.returns-in_err-in_turn
unfolding offer_end_sizes ◌then◌
returns-in_err-in_turn c = given_up _ c.from_residual.ensures ∙ rw (← c.fixed-f.ensures, ← c.is_complete.ensures, ← c.in_err-in_turn.ensures) refl

pub returns : goal.returns
unfolding offer_end_sizes ◌then◌
returns c = c.room_for.ensures ∙ rw (← c.fixed-f.ensures, ← c.is_complete.ensures, ← c.in_ok-in_turn.ensures) refl
