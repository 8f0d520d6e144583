-- `matrix::add_left` meets its contract: it fills a row of sums at a time.
use Rattle.lists.proofs.Kit.{◌≡◌, arith}
use Rattle.lists.proofs.Fill.{fill_end, rows_start, rows_next}
use Rattle.matrix.specs.{Words.gained}
use Rattle.matrix.proofs.{Terms.block_row, Terms.Row, Terms.row_of}
use Rattle.matrix.proofs.add_left.Goals as goal
use Rattle.matrix.proofs.add_left.Goals.{In-loop-i, Start}

pub loop-i-init : goal.loop-i-init
loop-i-init c = rows_start _ _ c.args.c

module _ (c : In-loop-i) where
  abbrev a : Start
  a = (goal.at.In-loop-i c).Start

  -- the row of sums
  row : Row a.args.c c.loop-i.i a.args.sums.now c.loop-i.sums
  row = row_of 8 a.args.c c.loop-i.i c.loop-i.invariant (omega (arith, a.requires.3)) c.loop-i-test.true

pub loop-i-preserved : goal.loop-i-preserved
loop-i-preserved c =
    let b = (goal.at.loop-i-preserved c).In-loop-i in
    let g = (a b).args in
    let p = (a b).requires in
    rows_next c.loop-i.i g.c _ c.loop-i.invariant (row b).first
    (block_row g.n g.c g.t g.m g.s.now g.y.now p.0 p.1 p.2 c.loop-i.i c.loop-i-test.true g.sums.now _ p.3 (row b).same c.add_block.ensures)

pub returns : goal.returns
unfolding gained
returns c =
    let l = c.loop-i in
    let k : l.i ≡ 8 = omega arith in
    fill_end l.invariant (rw (k, c.requires.3) (omega arith))
