-- `told::differ_number` meets its contract: a bit below 1,024 has a successor.
use Rattle.lists.proofs.Kit.{add-one, arith}
use Rattle.told.proofs.differ_number.Goals as goal

pub overflow_add-result : goal.overflow_add-result
overflow_add-result c = omega (arith, rw c.in-Some.is at c.requires)

pub returns-in-Some : goal.returns-in-Some
returns-in-Some c = rw (c.in-Some.is, add-one _)
