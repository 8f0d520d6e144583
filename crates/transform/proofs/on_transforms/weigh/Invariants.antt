-- `transform::on_transforms::weigh` meets its contract: it fills with the products.
use Rattle.lists.proofs.Kit.{◌*◌, ◌%◌, get_or}
use Rattle.lists.proofs.Fill.{Filled}
use Rattle.transform.proofs.on_transforms.weigh.Given as goal

abbrev pub invariant-loop-k : goal.invariant-loop-k
invariant-loop-k l = Filled (λ k. get_or l.u k 0 * get_or l.initial.x k 0 % 12289) l.initial.x l.x l.k
