-- `transform::on_transforms::reduce` meets its contract: it fills with the remainders.
use Rattle.numbers.specs.Residue.{residue}
use Rattle.lists.specs.Entries.{ints}
use Rattle.lists.proofs.Fill.{Filled}
use Rattle.transform.proofs.on_transforms.reduce.Given as goal

abbrev pub invariant-loop-k : goal.invariant-loop-k
invariant-loop-k l = Filled (λ k. residue 12289 (ints l.s k)) l.initial.out l.out l.k
