-- `matrix::add_right` meets its contract: it fills a row of sums at a time.
use Rattle.lists.proofs.Kit.{◌≡◌, arith}
use Rattle.lists.proofs.{Fill.fill_end, Fill.rows_start, Fill.rows_next}
use Rattle.matrix.specs.Words.{gained}
use Rattle.matrix.proofs.{Terms.right-sums, Terms.Row, Terms.row_of}
use Rattle.matrix.proofs.add_right.Goals as goal
use Rattle.matrix.proofs.add_right.Goals.{In-loop-i, Start}

module _ (c : In-loop-i) where
  abbrev a : Start
  a = (goal.at.In-loop-i c).Start

  -- the row of sums
  row : Row 8 c.loop-i.i a.args.sums.now c.loop-i.sums
  row = row_of a.args.r 8 c.loop-i.i c.loop-i.invariant (omega (arith, a.requires.2)) c.loop-i-test.true

pub loop-i-preserved : goal.loop-i-preserved
loop-i-preserved c =
    let b = (goal.at.loop-i-preserved c).In-loop-i in
    let g = (a b).args in
    rows_next c.loop-i.i 8 _ c.loop-i.invariant (row b).first
    (right-sums g.n c.loop-i.i g.x.now g.cols.now g.sums.now _ (row b).first (row b).same c.add_dots.ensures)

pub returns : goal.returns
unfolding gained
returns c =
    let l = c.loop-i in
    let k : l.i ≡ c.args.r = omega arith in
    fill_end l.invariant (rw (k, c.requires.2) (omega arith))

pub loop-i-init : goal.loop-i-init
loop-i-init c = rows_start _ _ 8
