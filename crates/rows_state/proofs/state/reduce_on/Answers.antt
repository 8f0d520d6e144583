-- `rows_state::state::reduce_on` meets its contract: the words of the sums, then their remainders.
use Rattle.lists.proofs.Kit.{◌∙◌, sym, ap, ℕ, arith, length, take, drop}
use Rattle.std.proofs.Common.{◌≡◌, ◌+◌, ◌*◌, ◌-◌}
use Rattle.lists.proofs.Parts.{slice-long}
use Rattle.matrix.specs.Words.{reduced}
use Rattle.parts.specs.Parts.{words}
use Rattle.parts.proofs.Words.{words_long}
use Rattle.rows_state.proofs.state.reduce_on.Goals as goal

pub unpair-requires : goal.unpair-requires
unpair-requires c =
    omega (arith, c.requires.5, slice-long (67 + 4 * c.args.n) (4 * c.args.n) c.args.state.now (omega (arith, c.requires.4)))

pub reduce-requires : goal.reduce-requires
reduce-requires c =
    let l = slice-long (67 + 4 * c.args.n) (4 * c.args.n) c.args.state.now (omega (arith, c.requires.4)) in
    (c.requires.0, c.requires.1, c.requires.2, c.requires.6 ∙ sym (ap length c.unpair.ensures ∙ words_long _ ∙ omega (arith, l)))

pub returns : goal.returns
returns c =
    let e : 67 + 4 * c.args.n + 4 * c.args.n - (67 + 4 * c.args.n) ≡ 4 * c.args.n = omega arith in
    c.reduce.ensures
    ∙ ap (reduced c.args.q) (c.unpair.ensures ∙ ap (λ (k : ℕ). words (take k (drop (67 + 4 * c.args.n) c.args.state.now))) e)
