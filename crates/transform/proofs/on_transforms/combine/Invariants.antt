-- `transform::on_transforms::combine` meets its contract: it fills with the sums.
use Rattle.lists.proofs.Kit.{◌+◌, ◌*◌, ◌%◌, get_or}
use Rattle.lists.proofs.Fill.{Filled}
use Rattle.transform.proofs.on_transforms.combine.Given as goal

abbrev pub invariant-loop-k : goal.invariant-loop-k
invariant-loop-k l = Filled (λ k. (get_or l.a k 0 * get_or l.x k 0 + get_or l.y k 0) % 12289) l.initial.out l.out l.k
