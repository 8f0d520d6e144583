-- `rows_state::state::lay_state` meets its contract: two numbers, then the words.
use Rattle.lists.proofs.Kit.{◌∙◌, sym, ap, ap₂, List, ℕ, arith, put_mid, length, replicate, length-set}
use Rattle.std.proofs.Common.{◌≡◌, ◌++◌, ◌-◌, ◌*◌}
use Rattle.schemes.specs.Schemes.{scheme_number}
use Rattle.matrix.specs.Words.{words_of}
use Rattle.parts.specs.Parts.{wrap, pairs}
use Rattle.rows_state.specs.State.{tag_of, long, saved_of, laid, secret_words_lem, fresh}
use Rattle.rows_state.proofs.Laying.{kept-long, headed, headed-long, behind-zeros, lay-is, fresh-long}
use Rattle.rows_state.proofs.state.lay_state.Goals as goal
use Rattle.rows_state.proofs.state.lay_state.Goals.{Start}

-- what stands before the words are written
module _ (s : Start) (tag number : ℕ) where
  abbrev before : List ℕ
  before = headed s.args.n s.args.state.now s.requires.sized.0.long s.requires.sized.2 tag number

  before-long : length before ≡ long s.args.n
  before-long = headed-long s.args.n s.args.state.now s.requires.sized.0.long s.requires.sized.2 tag number

  laid-is : {x : List ℕ} → let a = s.args in
      tag ≡ tag_of a.call → number ≡ scheme_number a.scheme → x ≡ pairs (secret_words_lem a.call a.n a.s.now) ++ (pairs (words_of wrap a.e.now) ++ replicate (8 * a.n) 0)
      → put_mid 67 (length before - 67) before x ≡ laid (fresh a.call a.scheme (saved_of a.state.now) a.s.now a.e.now)
  laid-is t k d =
      let a = s.args in
      lay-is a.n a.state.now s.requires.sized.0.long s.requires.sized.2 tag number (secret_words_lem a.call a.n a.s.now) (words_of wrap a.e.now) d
      ∙ ap₂ (λ (k j : ℕ). laid (record { call = k; scheme = j; taken = 0; kept = saved_of a.state.now; secret = secret_words_lem a.call a.n a.s.now; sums = words_of wrap a.e.now; held = replicate (16 * a.n) 0 })) t k
      ∙ ap (λ (j : ℕ). laid (record { call = tag_of a.call; scheme = scheme_number a.scheme; taken = 0; kept = saved_of a.state.now; secret = secret_words_lem a.call j a.s.now; sums = words_of wrap a.e.now; held = replicate (16 * j) 0 })) s.requires.sized.1

pub lay_words-requires : goal.lay_words-requires
lay_words-requires c = (
  c.requires.sized.0.some,
  c.requires.sized.0.few,
  c.requires.s_len.0,
  c.requires.s_len.1,
  behind-zeros c.args.n c.args.state.now c.requires.sized.0.long c.requires.sized.2 c.tag.result c.number.result,
)

pub shape_of-state : goal.shape_of-state
shape_of-state c =
    let a = c.args in
    let eight = ap (λ (j : ℕ). 8 * j) c.requires.sized.1 in
    ap length (laid-is (goal.at.shape_of-state c).Start c.tag.result c.number.result c.tag.ensures c.number.ensures c.lay_words.ensures)
    ∙ fresh-long a.call a.scheme (saved_of a.state.now) a.s.now a.e.now (kept-long a.n a.state.now c.requires.sized.0.long) (c.requires.s_len.0 ∙ eight) (c.requires.s_len.1 ∙ eight)
    ∙ ap long (sym c.requires.sized.1)
    ∙ sym c.requires.sized.0.long

pub bounds-state-1 : goal.bounds-state-1
bounds-state-1 c = simp length-set (omega (arith, c.requires.sized.0.long))

pub slice_bounds-lay_words-count : goal.slice_bounds-lay_words-count
slice_bounds-lay_words-count c = omega (arith, before-long (goal.at.slice_bounds-lay_words-count c).Start c.tag.result c.number.result)

pub slice_bounds-lay_words-start : goal.slice_bounds-lay_words-start
slice_bounds-lay_words-start c = omega (arith, before-long (goal.at.slice_bounds-lay_words-start c).Start c.tag.result c.number.result)

pub returns : goal.returns
returns c = laid-is (goal.at.returns c).Start c.tag.result c.number.result c.tag.ensures c.number.ensures c.lay_words.ensures
