-- `matrix::right_rows` meets its contract: it fills a row at a time, and no number of the rows before is q or more.
use Rattle.lists.proofs.Kit.{◌≡◌, refl, ◌∙◌, sym, ap, ℕ, ◌+◌, ◌*◌, ◌≤◌, arith, rules, length}
use Rattle.lists.proofs.{Fill.fill_end, Fill.rows_start, Fill.rows_next}
use Rattle.matrix.specs.Words.{gained}
use Rattle.matrix.proofs.Search.{clear-start, clear-part, clear-all, part-below, part-place, part-full}
use Rattle.matrix.proofs.{Terms.row_in, Terms.right-sums, Terms.Row, Terms.row_of}
use Rattle.matrix.proofs.right_rows.Goals as goal
use Rattle.matrix.proofs.right_rows.Goals.{In-loop-i, Start}

pub loop-i-init : goal.loop-i-init
loop-i-init c =
    (refl, clear-start c.args.q c.args.x.now c.args.n, rows_start _ _ 8)

module _ (c : In-loop-i) where
  abbrev a : Start
  a = (goal.at.In-loop-i c).Start

  abbrev i : ℕ
  i = c.loop-i.i

  -- row i of X, and of the sums
  in-x : i * a.args.n + a.args.n ≤ length a.args.x.now
  in-x = rw a.requires.2 (row_in a.args.r a.args.n i c.loop-i-test.true)

  row : Row 8 i a.args.sums.now c.loop-i.sums
  row = row_of a.args.r 8 i c.loop-i.invariant.2 (omega (arith, a.requires.5)) c.loop-i-test.true

pub returns-then-at-n : goal.returns-then-at-n
returns-then-at-n c =
    let b = (goal.at.returns-then-at-n c).In-loop-i in
    let g = (a b).args in
    let h = b.loop-i.invariant.1 in record {
      value = part-place g.q g.x.now (i b * g.n) g.n h (in-x b) c.right_row-at.ensures.value c.if-at-n.true;
      sums_value = λ k. absurd (omega (arith, part-full g.q g.x.now (i b * g.n) g.n h (in-x b) c.right_row-at.ensures.value k, c.if-at-n.true));
    }

pub loop-i-preserved : goal.loop-i-preserved
loop-i-preserved c =
    let b = (goal.at.loop-i-preserved c).In-loop-i in
    let l = b.loop-i in
    let g = (a b).args in
    let f = part-below g.q g.x.now (i b * g.n) g.n l.invariant.1 (in-x b) c.right_row-at.ensures.value (a b).requires.0 c.if-at-n.false in (
      search rules,
      clear-part g.q g.x.now (i b * g.n) g.n l.invariant.1 (in-x b) c.right_row-at.ensures.value c.if-at-n.false _ (omega arith),
      rows_next (i b) 8 _ l.invariant.2 (row b).first
          (right-sums g.n (i b) g.x.now g.cols.now g.sums.now _ (row b).first (row b).same (c.right_row-at.ensures.sums_value f)),
    )

pub returns : goal.returns
unfolding gained
returns c =
    let l = c.loop-i in
    let g = c.args in
    let k : l.i ≡ g.r = omega arith in record { value = clear-all g.q g.x.now _ l.invariant.1 (c.requires.2 ∙ ap (λ (j : ℕ). j * g.n) (sym k)); sums_value = λ _. fill_end l.invariant.2 (rw (k, c.requires.5) (omega arith)) }
