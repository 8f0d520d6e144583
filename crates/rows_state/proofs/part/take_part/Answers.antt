-- `rows_state::part::take_part` meets its contract: its numbers, then the state. Where none is too large they are words.
use Rattle.lists.proofs.Kit.{refl, ◌∙◌, sym, arith}
use Rattle.matrix.proofs.Search.{below_wider}
use Rattle.refusals.proofs.{Ends.given_up}
use Rattle.refusals.proofs.Laws.{publics-passed}
use Rattle.rows_state.proofs.part.take_part.Goals as goal

pub put_part-requires : goal.put_part-requires
put_part-requires c =
    let a = c.args in
    let b = publics-passed a.q a.p.now c.requires.0 (sym c.publics_in.ensures ∙ c.in_ok-publics_in.was) in
    (c.requires.2, c.requires.3, below_wider (omega (arith, c.requires.1)) b)

pub returns-in_err-publics_in : goal.returns-in_err-publics_in
returns-in_err-publics_in c =
    rw (given_up _ c.from_residual.ensures) (record { value = c.in_err-publics_in.ensures; state_value = refl })

pub returns : goal.returns
returns c =
    record { value = c.in_ok-publics_in.ensures; state_value = c.put_part.ensures }
