-- `transform::on_transforms::add_noise` meets its contract: it fills with the sums.
use Rattle.lists.proofs.Kit.{◌+◌, ◌%◌, get_or}
use Rattle.numbers.specs.Residue.{residue}
use Rattle.lists.specs.Entries.{ints}
use Rattle.lists.proofs.Fill.{Filled}
use Rattle.transform.proofs.on_transforms.add_noise.Given as goal

abbrev pub invariant-loop-k : goal.invariant-loop-k
invariant-loop-k l = Filled (λ k. (get_or l.x k 0 + residue 12289 (ints l.e k)) % 12289) l.initial.out l.out l.k
