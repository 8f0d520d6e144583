-- `rows_state::state::named` meets its contract: past its end a list reads 0, which names none.
use Rattle.lists.proofs.Kit.{sym, ap, arith, List·getD-eq-default}
use Rattle.rows_state.specs.State.{frodo_of_lem}
use Rattle.rows_state.proofs.state.named.Goals as goal

pub returns-then-state-lt2 : goal.returns-then-state-lt2
returns-then-state-lt2 c = ap frodo_of_lem (sym (List·getD-eq-default c.args.state.now 0 {n = 1} (omega arith)))

pub returns : goal.returns
returns c = c.frodo_of.ensures
