-- `rows_state::state::secret_words` meets its contract: by the call.
use Rattle.lists.proofs.Kit.{◌∙◌, sym, ap}
use Rattle.rows_state.specs.State.{secret_words_lem, Call}
use Rattle.rows_state.proofs.state.secret_words.Goals as goal

pub returns-in-Offer : goal.returns-in-Offer
returns-in-Offer c =
    c.columns.ensures ∙ ap (λ (k : Call). secret_words_lem k c.args.n c.args.s.now) (sym c.in-Offer.is)

pub returns-in-Reply : goal.returns-in-Reply
returns-in-Reply c =
    c.words.ensures ∙ ap (λ (k : Call). secret_words_lem k c.args.n c.args.s.now) (sym c.in-Reply.is)
