-- `rows_state::state::words_on` meets its contract: the words of both, then the state.
use Rattle.lists.proofs.Kit.{◌∙◌, ap, ap₂, List, ℕ, length, replicate}
use Rattle.std.proofs.Common.{◌++◌, ◌*◌}
use Rattle.matrix.proofs.Steps.{words-length}
use Rattle.parts.specs.Parts.{wrap, pairs}
use Rattle.rows_state.proofs.{Laying.secret-words-long}
use Rattle.rows_state.proofs.state.words_on.Goals as goal

pub lay_pairs-requires : goal.lay_pairs-requires
lay_pairs-requires c =
    let a = c.args in (
      c.requires.n_nonzero.1,
      ap length c.secret_words.ensures ∙ secret-words-long a.call a.n a.s.now c.requires.n_nonzero.2,
      ap length c.words.ensures ∙ words-length wrap a.e.now ∙ c.requires.n_nonzero.3,
      c.requires.n_nonzero.4,
    )

pub returns : goal.returns
returns c =
    c.lay_pairs.ensures
    ∙ ap₂ (λ (u v : List ℕ). pairs u ++ (pairs v ++ replicate (8 * c.args.n) 0)) c.secret_words.ensures c.words.ensures
