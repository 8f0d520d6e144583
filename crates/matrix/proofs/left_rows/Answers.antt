-- `matrix::left_rows` meets its contract: after t rows each sum has gained t products, and none of their numbers is q or more.
use Rattle.lists.proofs.Kit.{◌≡◌, refl, ◌∙◌, sym, ap, List, ℕ, ◌+◌, ◌*◌, ◌≤◌, arith, mul_comm, rules, length, min}
use Rattle.lists.specs.First.{first_over_lem}
use Rattle.matrix.specs.Words.{gained, left_term}
use Rattle.matrix.proofs.Search.{Clear, clear-start, clear-part, clear-all, part-below, part-place, part-full}
use Rattle.matrix.proofs.{Steps.gained-length, Steps.gained-none, Steps.gained-more, Terms.in-y, Terms.part-terms}
use Rattle.matrix.proofs.left_rows.Goals as goal
use Rattle.matrix.proofs.left_rows.Goals.{After-min-m, After-left_block-at, At-loop-t, Start}

pub loop-t-init : goal.loop-t-init
loop-t-init c =
    let z : min 0 c.args.n ≡ 0 = omega arith in
    (refl, rw z (clear-start c.args.q c.args.y.now c.args.c), rw z (sym (gained-none 65536 _ _ (λ k. omega (arith, c.type_inv.sums k)))))

module _ (c : At-loop-t) where
  abbrev a : Start
  a = (goal.at.At-loop-t c).Start

  -- the sums are as many as ever
  long : length c.loop-t.sums ≡ 8 * a.args.c
  long = ap length c.loop-t.invariant.2 ∙ gained-length _ _ _ _ ∙ a.requires.c_in_bounds.1

-- the block at t
module _ (c : After-min-m) where
  abbrev at : At-loop-t
  at = (goal.at.After-min-m c).At-loop-t

  abbrev m : ℕ
  m = c.min-m.result

  -- it begins where the rows before end, and ends where those after it begin
  here : min at.loop-t.t (a at).args.n ≡ at.loop-t.t
  here = omega arith

  next : min (at.loop-t.t + 4) (a at).args.n ≡ at.loop-t.t + m
  next = omega arith

  abbrev w : ℕ
  w = (a at).args.c

  abbrev y : List ℕ
  y = (a at).args.y.now

  inside : at.loop-t.t + m ≤ (a at).args.n
  inside = omega arith

  -- it ends inside Y
  rows : at.loop-t.t * w + m * w ≤ length y
  rows = in-y (a at).args.n w at.loop-t.t m (a at).args.s.now y (a at).requires.q_nonzero.2 inside

  passed : Clear (a at).args.q y (at.loop-t.t * w)
  passed = rw here at at.loop-t.invariant.1

-- after the block
abbrev block : After-left_block-at → After-min-m
block c = (goal.at.After-left_block-at c).After-min-m

pub returns-then-at-l : goal.returns-then-at-l
returns-then-at-l c =
    let d = block (goal.at.returns-then-at-l c).After-left_block-at in
    let l = at d in
    let q = (a l).args.q in record {
      value = part-place q (y d) (l.loop-t.t * w d) (m d * w d) (passed d) (rows d) c.left_block-at.ensures.value c.if-at-l.true;
      sums_value = λ k. absurd (omega (arith, part-full q (y d) (l.loop-t.t * w d) (m d * w d) (passed d) (rows d) c.left_block-at.ensures.value k, c.if-at-l.true));
    }

-- after a block that has none: its rows are no different from those before
module _ (c : After-left_block-at) (h : m (block c) * w (block c) ≤ c.left_block-at.result) where
  abbrev d : After-min-m
  d = block c

  abbrev l : At-loop-t
  l = at d

  more : Clear (a l).args.q (y d) ((l.loop-t.t + m d) * w d)
  more = clear-part (a l).args.q (y d) (l.loop-t.t * w d) (m d * w d) (passed d) (rows d) c.left_block-at.ensures.value h _ (omega arith)

  sums : c.left_block-at.new.sums ≡ gained 65536 (l.loop-t.t + m d) (left_term (a l).args.n (w d) (a l).args.s.now (y d)) (a l).args.sums.now
  sums =
      let g = (a l).args in
      let f = part-below g.q (y d) (l.loop-t.t * w d) (m d * w d) (passed d) (rows d) c.left_block-at.ensures.value (a l).requires.q_nonzero.0 h in
      gained-more 65536 l.loop-t.t (m d) (left_term g.n g.c g.s.now g.y.now) g.sums.now (rw (here d) at l.loop-t.invariant.2)
      (part-terms g.n g.c l.loop-t.t (m d) g.s.now g.y.now (a l).requires.q_nonzero.2 (inside d) l.loop-t.sums (long l) (c.left_block-at.ensures.sums_value f))

pub loop-t-preserved : goal.loop-t-preserved
loop-t-preserved c =
    let b = (goal.at.loop-t-preserved c).After-left_block-at in
    (search rules, rw (next (block b)) (more b c.if-at-l.false), rw (next (block b)) (sums b c.if-at-l.false))

-- after all rows
all : (c : At-loop-t) (k : ℕ) → k ≡ (a c).args.n → Clear (a c).args.q (a c).args.y.now (k * (a c).args.c) →
    length (a c).args.y.now ≡ first_over_lem (a c).args.q (a c).args.y.now
all c k e h =
    let g = (a c).args in
    clear-all g.q g.y.now _ h ((a c).requires.q_nonzero.2 ∙ mul_comm g.c g.n ∙ ap (λ (j : ℕ). j * g.c) (sym e))

pub returns : goal.returns
returns c =
    let l = c.loop-t in
    let g = c.args in
    let k : min l.t g.n ≡ g.n = omega arith in record { value = all (goal.at.returns c).At-loop-t (min l.t g.n) k l.invariant.1; sums_value = λ _. l.invariant.2 ∙ ap (λ (t : ℕ). gained 65536 t (left_term g.n g.c g.s.now g.y.now) g.sums.now) k }

-- the block was the last
pub returns-else-at-l : goal.returns-else-at-l
returns-else-at-l c =
    let b = (goal.at.returns-else-at-l c).After-left_block-at in
    let t = c.loop-t.t in
    let g = c.args in
    let k : t + c.min-m.result ≡ g.n = omega arith in record { value = all (at (block b)) (t + c.min-m.result) k (more b c.if-at-l.false); sums_value = λ _. sums b c.if-at-l.false ∙ ap (λ (t : ℕ). gained 65536 t (left_term g.n g.c g.s.now g.y.now) g.sums.now) k }

pub slice_bounds-left_block-end : goal.slice_bounds-left_block-end
slice_bounds-left_block-end c = rows (goal.at.slice_bounds-left_block-end c).After-min-m
