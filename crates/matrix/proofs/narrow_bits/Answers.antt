-- `matrix::narrow_bits` meets its contract: it fills with the numbers where they fit, and none that was passed is over the bits.
use Rattle.lists.proofs.Kit.{refl, ◌∙◌, ℕ, ◌≤◌, arith, not-suc-le-zero, bit_or, and_le_l, and_le_r, or_add_and, get_or}
use Rattle.lists.proofs.Kit.{length-set}
use borrow.Author.Count.{below_more}
use Rattle.lists.proofs.{Entries.tab-getD, Fill.fill_start, Fill.fill-next, Fill.fill-whole}
use Rattle.matrix.proofs.narrow_bits.Goals as goal

pub loop-k-init : goal.loop-k-init
loop-k-init c = (refl, λ i l. absurd (not-suc-le-zero l), λ b. fill_start _ _)

-- neither of two numbers is over their bits
under-l : (a b : ℕ) → a ≤ bit_or a b
under-l a b = omega (arith, or_add_and a b, and_le_r a b)

under-r : (a b : ℕ) → b ≤ bit_or a b
under-r a b = omega (arith, or_add_and a b, and_le_l a b)

pub loop-k-preserved : goal.loop-k-preserved
loop-k-preserved c =
    let x = get_or c.args.xs.now c.loop-k.k 0 in (
      simp length-set c.loop-k.invariant.0,
      below_more _ _ (λ i p. omega (arith, c.loop-k.invariant.1 i p, under-l c.loop-k.bits x)) (under-r c.loop-k.bits x),
      λ b. fill-next _ (c.loop-k.invariant.2 b) (omega arith) (c.packed.ensures (b.below c.loop-k.k)),
    )

pub returns-clause-out_value : goal.returns-clause-out_value
returns-clause-out_value c = λ b. fill-whole (c.loop-k.invariant.2 b) (omega arith) (omega arith) ∙ tab-getD c.args.xs.now 0
