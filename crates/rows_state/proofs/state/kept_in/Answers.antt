-- `rows_state::state::kept_in` meets its contract: by the call.
use Rattle.lists.proofs.Kit.{◌∙◌, sym, ap}
use Rattle.rows_state.specs.State.{saved_in, Call}
use Rattle.rows_state.proofs.state.kept_in.Goals as goal

pub returns-in-Offer : goal.returns-in-Offer
returns-in-Offer c =
    c.seed_kept.ensures ∙ ap (λ (k : Call). saved_in k c.args.q c.args.kept.now) (sym c.in-Offer.is)

pub returns-in-Reply : goal.returns-in-Reply
returns-in-Reply c =
    c.all_below.ensures ∙ ap (λ (k : Call). saved_in k c.args.q c.args.kept.now) (sym c.in-Reply.is)
