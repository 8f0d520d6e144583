-- `parts::add_rows` meets its contract: it fills a row of sums at a time.
use Rattle.lists.proofs.Kit.{◌≡◌, refl, ◌∙◌, sym, List, ℕ, ◌+◌, ◌*◌, ◌-◌, ◌≤◌, arith, length, take, drop}
use Rattle.lists.proofs.{Fill.fill_end, Fill.rows_start, Fill.rows_next}
use Rattle.matrix.specs.Words.{gained}
use Rattle.matrix.proofs.Terms.{row_in, Row, row_of}
use Rattle.parts.specs.Parts.{words}
use Rattle.parts.proofs.{Words.slice-words-long, Blocks.one-row}
use Rattle.parts.proofs.add_rows.Goals as goal
use Rattle.parts.proofs.add_rows.Goals.{In-loop-i, Start}

module _ (c : In-loop-i) where
  abbrev a : Start
  a = (goal.at.In-loop-i c).Start

  abbrev i : ℕ
  i = c.loop-i.i

  -- row i ends inside the rows
  in-x : i * a.args.h + a.args.h ≤ length a.args.x.now
  in-x = rw a.requires.1 (row_in a.args.r a.args.h i c.loop-i-test.true)

  -- the row of sums
  row : Row 8 i a.args.sums.now c.loop-i.sums
  row = row_of a.args.r 8 i c.loop-i.invariant.1 (omega (arith, a.requires.4)) c.loop-i-test.true

  -- its words are as many as the line has room for
  line-long : {l : List ℕ} → l ≡ words (take (i * a.args.h + a.args.h - i * a.args.h) (drop (i * a.args.h) a.args.x.now)) → length l ≡ a.args.n
  line-long e = slice-words-long (i * a.args.h) a.args.h a.args.x.now in-x e ∙ sym a.requires.0

pub loop-i-preserved : goal.loop-i-preserved
loop-i-preserved c =
    let b = (goal.at.loop-i-preserved c).In-loop-i in
    let g = (a b).args in
    let p = (a b).requires in (
      line-long b c.unpair.ensures ∙ sym p.3,
      rows_next (i b) 8 _ c.loop-i.invariant.1 (row b).first
          (one-row g.n g.h (i b) g.x.now g.cols.now g.sums.now _ _ p.0 (row b).first (row b).same c.unpair.ensures c.add_right.ensures),
    )

pub returns : goal.returns
unfolding gained
returns c =
    let l = c.loop-i in
    let k : l.i ≡ c.args.r = omega arith in
    fill_end l.invariant.1 (rw (k, c.requires.4) (omega arith))

pub loop-i-init : goal.loop-i-init
loop-i-init c = (refl, rows_start _ _ 8)
