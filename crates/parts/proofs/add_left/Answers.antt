-- `parts::add_left` meets its contract: after t rows each sum has gained t products.
use Rattle.lists.proofs.Kit.{◌≡◌, refl, ◌∙◌, sym, ap, List, ℕ, ◌+◌, ◌*◌, ◌-◌, ◌≤◌, arith, mul-le-mul_right, length, take, drop}
use Rattle.matrix.specs.{Steps.part_term, Words.gained}
use Rattle.matrix.proofs.Steps.{gained-none, gained-more}
use Rattle.parts.specs.Parts.{words}
use Rattle.parts.proofs.{Words.slice-words-long, Blocks.one_block}
use Rattle.parts.proofs.add_left.Goals as goal
use Rattle.parts.proofs.add_left.Goals.{At-loop-t, In-loop-t, Start}

module _ (c : In-loop-t) where
  abbrev at : At-loop-t
  at = (goal.at.In-loop-t c).At-loop-t

  abbrev a : Start
  a = (goal.at.In-loop-t c).Start

  abbrev t : ℕ
  t = at.loop-t.t

  -- four rows more are inside
  inside : t + 4 ≤ a.args.w
  inside = omega (arith, at.loop-t.invariant.1, a.requires.2, c.loop-t-test.true)

  rows : t * a.args.h + 4 * a.args.h ≤ length a.args.x.now
  rows = omega (arith, mul-le-mul_right a.args.h inside, a.requires.4)

  -- their words are as many as the block has room for
  block-long : {l : List ℕ} → l ≡ words (take (t * a.args.h + 4 * a.args.h - t * a.args.h) (drop (t * a.args.h) a.args.x.now)) → length l ≡ 4 * a.args.n
  block-long e = slice-words-long (t * a.args.h) (4 * a.args.h) a.args.x.now rows e ∙ omega (arith, a.requires.1)

-- four rows more
more : (c : In-loop-t) → {block sums : List ℕ} → block ≡ words (take (t c * (a c).args.h + 4 * (a c).args.h - t c * (a c).args.h) (drop (t c * (a c).args.h) (a c).args.x.now))
    → sums ≡ gained 65536 4 (part_term (a c).args.w (a c).args.n (t c) (a c).args.s.now block) (at c).loop-t.sums
    → sums ≡ gained 65536 (t c + 4) (part_term (a c).args.w (a c).args.n 0 (a c).args.s.now (words (a c).args.x.now)) (a c).args.sums.now
more c d e =
    let g = (a c).args in
    let l = (at c).loop-t in
    gained-more 65536 (t c) 4 (part_term g.w g.n 0 g.s.now (words g.x.now)) g.sums.now l.invariant.3
    (one_block 65536 g.n g.h g.w (t c) 4 g.s.now g.x.now l.sums (a c).requires.0 (a c).requires.1 d e)

pub loop-t-preserved : goal.loop-t-preserved
loop-t-preserved c =
    let b = (goal.at.loop-t-preserved c).In-loop-t in
    (inside b, omega (arith, (at b).loop-t.invariant.1), block-long b c.unpair.ensures ∙ sym (a b).requires.5, more b c.unpair.ensures c.add_left.ensures)

-- these rows were the last
pub returns-2 : goal.returns-2
returns-2 c =
    let b = (goal.at.returns-2 c).In-loop-t in
    let g = c.args in
    let k : t b + 4 ≡ g.w = omega (arith, inside b) in
    more b c.unpair.ensures c.add_left.ensures ∙ ap (λ (t : ℕ). gained 65536 t (part_term g.w g.n 0 g.s.now (words g.x.now)) g.sums.now) k

pub loop-t-init : goal.loop-t-init
loop-t-init c = (omega arith, refl, refl, sym (gained-none 65536 _ _ (λ k. omega (arith, c.type_inv.sums k))))

pub slice_bounds-unpair-end : goal.slice_bounds-unpair-end
slice_bounds-unpair-end c = rows (goal.at.slice_bounds-unpair-end c).In-loop-t
