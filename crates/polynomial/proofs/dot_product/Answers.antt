-- `polynomial::dot_product` meets its contract. The invariant: the sum is that of the products so far.
use Rattle.lists.proofs.Kit.{◌≡◌, ◌+◌, ◌*◌, arith}
use Rattle.polynomial.proofs.{Kernel.first-none, Kernel.first_fits, Kernel.first_more}
use Rattle.polynomial.proofs.dot_product.Goals as goal

pub loop-b-init : goal.loop-b-init
loop-b-init c = first-none c.args.w.now c.args.s.now

pub overflow_add-sum : goal.overflow_add-sum
overflow_add-sum c = first_fits 64 c.args.w.now c.args.s.now (64 * c.loop-b.b) _ _ c.requires (omega arith) c.loop-b.invariant c.sixty_four-sum.ensures

pub loop-b-preserved : goal.loop-b-preserved
loop-b-preserved c =
    let b = c.loop-b.b in
    let e : 64 * b + 64 ≡ 64 * (b + 1) = omega arith in
    rw (← e) (first_more 64 c.args.w.now c.args.s.now (64 * b) _ _ c.requires (omega arith) c.loop-b.invariant c.sixty_four-sum.ensures)

pub overflow_add-sum-in-loop-i : goal.overflow_add-sum-in-loop-i
overflow_add-sum-in-loop-i c = first_fits 1 c.args.w.now c.args.s.now c.loop-i.i _ _ c.requires (omega arith) c.loop-i.invariant c.product-sum.ensures

pub loop-i-preserved : goal.loop-i-preserved
loop-i-preserved c = first_more 1 c.args.w.now c.args.s.now c.loop-i.i _ _ c.requires (omega arith) c.loop-i.invariant c.product-sum.ensures
