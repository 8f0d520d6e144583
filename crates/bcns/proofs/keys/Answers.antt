-- `bcns::keys` meets its contract.
use Rattle.lists.proofs.Kit.{arith, rules}
use Rattle.lists.proofs.Made.{made_whole}
use Rattle.bcns.specs.Rounding.{keys_of}
use Rattle.bcns.proofs.keys.Goals as goal

pub returns : goal.returns
unfolding keys_of
returns c = made_whole _ _ (omega arith) (λ k l. let e = c.set_each.ensures.made k (omega arith) in search rules)
