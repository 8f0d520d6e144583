-- `cards::power` meets its contract: zeros and a 1.
use Rattle.lists.proofs.Kit.{ℕ, arith, replicate, length-replicate}
use Rattle.lists.proofs.Entries.{below_set, below-zeros}
use Rattle.cards.proofs.power.Goals as goal

pub returns : goal.returns
returns c = below_set (replicate 1024 0) c.args.k (omega (arith, length-replicate {A = ℕ} 1024 0)) (omega arith) (below-zeros 1024 (omega arith))
