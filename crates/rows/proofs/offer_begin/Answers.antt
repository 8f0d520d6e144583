-- `rows::offer_begin` meets its contract: the state is zeroed first, and then holds what the scheme by its number gives.
use Rattle.lists.proofs.Kit.{length}
use Rattle.lists.proofs.Same.{zeros}
use Rattle.refusals.proofs.Ends.{given_up}
use Rattle.rows.proofs.{Ends.none_named, Ends.frodo-known, Opening.begin-unknown, Opening.begin-known}
use Rattle.rows.proofs.offer_begin.Goals as goal

pub returns-in_err-known : goal.returns-in_err-known
returns-in_err-known c =
    let u = none_named _ c.in_err-known.ensures.value in
    rw (given_up _ c.from_residual.ensures, u.1) (begin-unknown c.args.scheme _ _ c.frodo_of.ensures (c.fill.ensures.after (λ y e. e)) u.0)

pub begin_in-requires : goal.begin_in-requires
begin_in-requires c =
    (frodo-known c.args.scheme c.frodo_of.ensures c.in_ok-known.ensures.ok_part, zeros (length c.args.state.now) 0 (c.fill.ensures.after (λ y e. e)))

pub returns : goal.returns
returns c =
    begin-known c.args.scheme _ _ c.frodo_of.ensures (c.fill.ensures.after (λ y e. e)) c.in_ok-known.ensures.ok_part c.begin_in.ensures
