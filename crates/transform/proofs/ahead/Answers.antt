-- `transform::ahead` meets its contract.
use Rattle.lists.proofs.Kit.{◌∙◌, sym}
use Rattle.transform.proofs.{Inverses.transformed-sums}
use Rattle.transform.proofs.ahead.Goals as goal

pub returns : goal.returns
returns c = c.sums.ensures ∙ sym (transformed-sums _)
