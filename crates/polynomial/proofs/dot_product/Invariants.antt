-- `polynomial::dot_product` meets its contract. The invariant: the sum is that of the products so far.
use Rattle.lists.proofs.Kit.{◌≡◌, ◌*◌}
use Rattle.polynomial.specs.Steps.{span}
use Rattle.polynomial.proofs.dot_product.Given as goal

abbrev pub invariant-loop-b : goal.invariant-loop-b
invariant-loop-b l = l.sum ≡ span (64 * l.b) l.w l.s 0

abbrev pub invariant-loop-i : goal.invariant-loop-i
invariant-loop-i l = l.sum ≡ span l.i l.w l.s 0
