-- `transform::join` meets its contract.
use Rattle.transform.proofs.{Joins.stored_is}
use Rattle.transform.proofs.join.Goals as goal

pub returns : goal.returns
returns c =
    stored_is _ _ _ _ _ _ _ _ _ c.tight-x.ensures.0 c.powered-y.ensures.0
