-- `refusals::secrets_in` meets its contract.
use Rattle.lists.proofs.Kit.{lt-ltb, le-ltb}
use Rattle.refusals.specs.Refusals.{secrets_in_lem}
use Rattle.refusals.proofs.secrets_in.Goals as goal

pub returns-then-at-s : goal.returns-then-at-s
unfolding secrets_in_lem
returns-then-at-s c =
    let e = c.first_beyond-at.ensures in
    rw (← e, lt-ltb _ _ c.if-at-s.true)

pub returns-else-at-s : goal.returns-else-at-s
unfolding secrets_in_lem
returns-else-at-s c =
    let e = c.first_beyond-at.ensures in
    rw (← e, le-ltb _ _ c.if-at-s.false)
