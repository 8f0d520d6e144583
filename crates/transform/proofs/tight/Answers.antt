-- `transform::tight` meets its contract.
use Rattle.lists.proofs.Kit.{refl, arith}
use Rattle.transform.specs.Level.{tight}
use Rattle.transform.proofs.tight.Goals as goal

pub returns : goal.returns
returns c = unfold tight in (refl, omega arith)
