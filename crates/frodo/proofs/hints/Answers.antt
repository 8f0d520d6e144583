-- `frodo::hints` meets its contract.
use Rattle.lists.proofs.Kit.{arith, rules}
use Rattle.lists.proofs.Made.{made_whole}
use Rattle.frodo.specs.Rounding.{hints_of}
use Rattle.frodo.proofs.hints.Goals as goal

pub returns : goal.returns
unfolding hints_of
returns c = made_whole _ _ (omega arith) (λ k l. let e = c.set_each.ensures.made k (omega arith) in search rules)
