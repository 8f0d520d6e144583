-- `bcns::slacks` meets its contract.
use Rattle.lists.proofs.Kit.{arith, rules}
use Rattle.lists.proofs.Made.{made_whole}
use Rattle.bcns.specs.Rounding.{slacks_of}
use Rattle.bcns.proofs.slacks.Goals as goal

pub returns : goal.returns
unfolding slacks_of
returns c = made_whole _ _ (omega arith) (λ k l. let e = c.set_each.ensures.made k (omega arith) in search rules)
