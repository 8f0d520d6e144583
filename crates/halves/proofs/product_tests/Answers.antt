-- `halves::product_tests` meets its contract: the first test that fails ends it.
use Rattle.lists.proofs.Kit.{refl, sym, ◌∙◌, arith, length}
use Rattle.refusals.specs.Refusals.{◌then◌}
use Rattle.refusals.proofs.{Ends.given_up}
use Rattle.halves.specs.Halves.{product_tests_lem}
use Rattle.halves.proofs.{Part.size-most, Multiplied.size-passed}
use Rattle.halves.proofs.product_tests.Goals as goal

pub overflow_mul-n : goal.overflow_mul-n
overflow_mul-n c =
    omega (arith, size-most 5 (length c.args.a.now) (size-passed _ (sym c.in_ok-size_in.ensures)))

pub returns-in_err-size_in : goal.returns-in_err-size_in
unfolding product_tests_lem ◌then◌
returns-in_err-size_in c = given_up _ c.from_residual.ensures ∙ rw (← c.in_err-size_in.ensures) refl

pub returns-in_err-length_is : goal.returns-in_err-length_is
unfolding product_tests_lem ◌then◌
returns-in_err-length_is c = given_up _ c.from_residual-in_err-length_is.ensures ∙ rw (← c.in_ok-size_in.ensures, ← c.in_err-length_is.ensures) refl

pub returns-in_err-room_for : goal.returns-in_err-room_for
unfolding product_tests_lem ◌then◌
returns-in_err-room_for c = given_up _ c.from_residual-in_err-room_for.ensures ∙ rw (← c.in_ok-size_in.ensures, ← c.in_ok-length_is.ensures, ← c.in_err-room_for.ensures) refl

pub returns-in_err-room_for-2 : goal.returns-in_err-room_for-2
unfolding product_tests_lem ◌then◌
returns-in_err-room_for-2 c = given_up _ c.from_residual-in_err-room_for-2.ensures ∙ rw (← c.in_ok-size_in.ensures, ← c.in_ok-length_is.ensures, ← c.in_ok-room_for.ensures, ← c.in_err-room_for-2.ensures) refl

pub returns-in_err-publics_in : goal.returns-in_err-publics_in
unfolding product_tests_lem ◌then◌
returns-in_err-publics_in c = given_up _ c.from_residual-in_err-publics_in.ensures ∙ rw (← c.in_ok-size_in.ensures, ← c.in_ok-length_is.ensures, ← c.in_ok-room_for.ensures, ← c.in_ok-room_for-2.ensures, ← c.in_err-publics_in.ensures) refl

pub returns : goal.returns
unfolding product_tests_lem ◌then◌
returns c = c.publics_in-2.ensures ∙ rw (← c.in_ok-size_in.ensures, ← c.in_ok-length_is.ensures, ← c.in_ok-room_for.ensures, ← c.in_ok-room_for-2.ensures, ← c.in_ok-publics_in.ensures) refl
