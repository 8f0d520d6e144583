-- `wimmostry::wim_product` meets its contract: its numbers are the answer's.
use Rattle.lists.proofs.Kit.{rules}
use Rattle.wimmostry.proofs.wim_product.Goals as goal

pub returns : goal.returns
returns c = rw c.tell.ensures (search rules)
