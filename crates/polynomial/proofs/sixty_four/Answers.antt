-- `polynomial::sixty_four` meets its contract.
use Rattle.lists.proofs.Kit.{rules}
use Rattle.polynomial.proofs.{Kernel.near_fits, Kernel.far-fits, Kernel.all-fits, Kernel.all}
use Rattle.polynomial.proofs.sixty_four.Goals as goal

pub overflow_add-result : goal.overflow_add-result
overflow_add-result c = search (rules, near_fits 16)

pub overflow_add-result-2 : goal.overflow_add-result-2
overflow_add-result-2 c = search (rules, far-fits 16)

pub overflow_add-result-3 : goal.overflow_add-result-3
overflow_add-result-3 c = search (rules, all-fits 16)

pub returns : goal.returns
returns c = search (rules, all 16)
