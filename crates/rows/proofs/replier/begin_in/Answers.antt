-- `rows::replier::begin_in` meets its contract: the sizes, then the rest of the tests.
use Rattle.std.proofs.Common.{Some}
use Rattle.lists.proofs.Kit.{refl, sym, ap, ◌∙◌, List, ℕ}
use Rattle.refusals.specs.Seen.{if_passed}
use Rattle.refusals.proofs.Ends.{given_up}
use Rattle.values.proofs.Numbers.{numbers-in}
use Rattle.rows_state.proofs.Turns.{state-by}
use Rattle.rows.specs.Reply.{reply_begin_of, reply_state}
use Rattle.rows.proofs.{Replying.begin-failed, Replying.begin-decides}
use Rattle.rows.proofs.replier.begin_in.Goals as goal

pub begin_sizes-requires : goal.begin_sizes-requires
begin_sizes-requires c = (numbers-in c.args.scheme c.requires.0).few

pub begin_sized-requires : goal.begin_sized-requires
begin_sized-requires c =
    record { scheme_value = c.requires; state_value = sym c.in_ok-begin_sizes.ensures }

pub returns-in_err-begin_sizes : goal.returns-in_err-begin_sizes
returns-in_err-begin_sizes c =
    rw (given_up _ c.from_residual.ensures) (state-by _ _ (begin-failed _ _ _ c.in_err-begin_sizes.ensures refl) c.requires.1)

pub returns : goal.returns
returns c =
    let a = c.args in
    let d = begin-decides _ _ _ (sym c.in_ok-begin_sizes.ensures) c.begin_sized.ensures.value in
    state-by _ _ d (c.begin_sized.ensures.state_value_2 ∙ ap (λ (l : List ℕ). if_passed c.begin_sized.result (reply_state (Some a.scheme) (reply_begin_of a.opening.now a.s1.now a.e1.now a.e2.now)) l) c.requires.1)
