-- `rows_state::part::enter` meets its contract: by the call.
use Rattle.lists.proofs.Kit.{◌∙◌, sym, ap}
use Rattle.std.proofs.Common.{◌*◌}
use Rattle.rows_state.specs.{Inside.entered, State.Call}
use Rattle.rows_state.proofs.part.enter.Goals as goal

pub returns-in-Offer : goal.returns-in-Offer
returns-in-Offer c =
    let a = c.args in
    c.add_right.ensures ∙ ap (λ (k : Call). entered k a.n (a.row * a.n) a.state.now) (sym c.in-Offer.is)

pub returns-in-Reply : goal.returns-in-Reply
returns-in-Reply c =
    let a = c.args in
    c.add_left.ensures ∙ ap (λ (k : Call). entered k a.n (a.row * a.n) a.state.now) (sym c.in-Reply.is)
