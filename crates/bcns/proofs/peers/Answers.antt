-- `bcns::peers` meets its contract.
use Rattle.lists.proofs.Kit.{arith, rules}
use Rattle.lists.proofs.Made.{made_whole}
use Rattle.bcns.specs.Rounding.{peers_of}
use Rattle.bcns.proofs.peers.Goals as goal

pub returns : goal.returns
unfolding peers_of
returns c = made_whole _ _ (omega arith) (λ k l. let e = c.set_each.ensures.made k (omega arith) in search rules)
