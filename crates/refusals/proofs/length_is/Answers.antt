-- `refusals::length_is` meets its contract.
use Rattle.lists.proofs.Kit.{eq-eqb, ne_eqb}
use Rattle.refusals.specs.Refusals.{length_is_lem}
use Rattle.refusals.proofs.length_is.Goals as goal

pub returns-then-m-n : goal.returns-then-m-n
returns-then-m-n c = unfold length_is_lem in rw (eq-eqb _ _ c.if-m-n.true)

pub returns-else-m-n : goal.returns-else-m-n
returns-else-m-n c = unfold length_is_lem in rw (ne_eqb _ _ c.if-m-n.false)
