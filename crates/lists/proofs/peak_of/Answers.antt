-- `lists::peak_of` meets its contract.
use Rattle.lists.proofs.{Top.peak-is}
use Rattle.lists.proofs.peak_of.Goals as goal

pub returns : goal.returns
returns c = peak-is _ _ _ c.largest-most.ensures c.search_all-at.ensures
