-- `rows_state::part::part` meets its contract: by the scheme that the state names.
use Rattle.lists.proofs.Kit.{◌∙◌, sym, get_or}
use Rattle.rows_state.proofs.{Tests.frodo-named, Turns.part-unknown, Turns.part-known}
use Rattle.rows_state.proofs.part.part.Goals as goal

pub returns-in_default : goal.returns-in_default
returns-in_default c =
    part-unknown c.args.call c.args.state.now c.args.p.now (sym c.named.ensures ∙ c.in_default.is)

pub part_in-requires : goal.part_in-requires
part_in-requires c =
    frodo-named (get_or c.args.state.now 1 0) _ (sym c.named.ensures ∙ c.in-Some.is)

pub returns : goal.returns
returns c =
    part-known c.args.call c.args.state.now c.args.p.now _ (sym c.named.ensures ∙ c.in-Some.is) c.part_in.ensures.value c.part_in.ensures.state_value
