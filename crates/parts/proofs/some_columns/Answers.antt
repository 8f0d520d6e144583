-- `parts::some_columns` meets its contract: it fills with the words of one row of S' at a time.
use Rattle.lists.proofs.Kit.{◌≡◌, ℕ, ◌+◌, ◌*◌, ◌≤◌, arith, length}
use Rattle.lists.proofs.{Fill.fill-whole, Fill.rows_start, Fill.rows_next}
use Rattle.matrix.specs.Steps.{columns_from}
use Rattle.matrix.proofs.Terms.{row_in}
use Rattle.parts.proofs.{Blocks.columns-row}
use Rattle.parts.proofs.some_columns.Goals as goal
use Rattle.parts.proofs.some_columns.Goals.{In-loop-k, Start}

module _ (c : In-loop-k) where
  abbrev a : Start
  a = (goal.at.In-loop-k c).Start

  abbrev k : ℕ
  k = c.loop-k.k

  -- so many words of a row
  abbrev w : ℕ
  w = 2 * a.args.c

  -- the words of row k lie inside S', and have room
  in-secret : k * a.args.h + a.args.r + a.args.c ≤ length a.args.secret.now
  in-secret = omega (arith, row_in 8 a.args.h k c.loop-k-test.true, a.requires.1, a.requires.2)

  first : k * w + w ≤ length a.args.out.now
  first = rw a.requires.3 (row_in 8 w k c.loop-k-test.true)

pub loop-k-preserved : goal.loop-k-preserved
loop-k-preserved c =
    let b = (goal.at.loop-k-preserved c).In-loop-k in
    let g = (a b).args in
    rows_next (k b) (w b) _ c.loop-k.invariant (first b) (columns-row g.h g.r g.c (k b) g.secret.now (in-secret b) c.unpair.ensures)

pub returns : goal.returns
unfolding columns_from
returns c =
    let e : c.loop-k.k ≡ 8 = omega arith in
    fill-whole c.loop-k.invariant c.requires.3 (rw e (omega arith))

pub loop-k-init : goal.loop-k-init
loop-k-init c = rows_start _ _ (2 * c.args.c)
