-- `lists::bits_of` meets its contract.
use Rattle.lists.proofs.Kit.{ℕ, arith, bit_or, and_le_l, and_le_r, or_add_and, get_or}
use Rattle.std.proofs.Common.{◌≤◌}
use Rattle.lists.proofs.{First.reached-none, First.reached-more, First.reached-all}
use Rattle.lists.proofs.bits_of.Goals as goal

-- neither of two numbers is over their bits
under-l : (a b : ℕ) → a ≤ bit_or a b
under-l a b = omega (arith, or_add_and a b, and_le_r a b)

under-r : (a b : ℕ) → b ≤ bit_or a b
under-r a b = omega (arith, or_add_and a b, and_le_l a b)

pub loop-x-preserved : goal.loop-x-preserved
loop-x-preserved c =
    let x = get_or c.args.xs.now c.loop-x.x-index 0 in
    reached-more (λ x. x) 0 _ c.loop-x.x-index _ _ c.loop-x.invariant (omega arith) (under-l c.loop-x.bits x) (under-r c.loop-x.bits x)

pub loop-x-init : goal.loop-x-init
loop-x-init c = reached-none (λ x. x) 0 _

pub returns : goal.returns
returns c = reached-all (λ x. x) 0 _ _ _ c.loop-x.invariant (omega arith)
