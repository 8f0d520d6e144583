-- `refusals::length_up_to` meets its contract.
use Rattle.lists.proofs.Kit.{le-leb, lt-leb}
use Rattle.refusals.specs.Refusals.{length_up_to_lem}
use Rattle.refusals.proofs.length_up_to.Goals as goal

pub returns-then-m-n : goal.returns-then-m-n
returns-then-m-n c = unfold length_up_to_lem in rw (le-leb _ _ c.if-m-n.true)

pub returns-else-m-n : goal.returns-else-m-n
returns-else-m-n c = unfold length_up_to_lem in rw (lt-leb _ _ c.if-m-n.false)
