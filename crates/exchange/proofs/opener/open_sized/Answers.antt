-- `exchange::opener::open_sized` meets its contract: s is zeroed after a refusal, and holds its values where nothing is refused.
use Rattle.lists.proofs.Kit.{ap, ◌∙◌, ℕ, arith, pos, length, replicate}
use Rattle.noise.specs.Expand.{rule_of_lem}
use Rattle.exchange.specs.{Open.open_lent, Open.open_rooms_of}
use Rattle.exchange.proofs.{Opening.open-sized, Opening.open-refused, Opening.open_done}
use Rattle.exchange.proofs.opener.open_sized.Goals as goal

pub returns-in-Err : goal.returns-in-Err
returns-in-Err c =
    let a = c.args in
    open-refused a.scheme (rule_of_lem a.rule) (open_lent a.a.now a.table.now a.random.now) (open_rooms_of (length a.opening.now) (length a.s.now))
    c.open_by-v.result _ a.s.now (c.open_by-v.ensures.opening_value_2, c.open_by-v.ensures.open_holds) c.in-Err.is
    (c.fill.ensures.after (λ y e. e) ∙ ap (λ (k : ℕ). replicate k (pos 0)) c.open_by-v.auto.s)

pub returns-in-Ok : goal.returns-in-Ok
returns-in-Ok c =
    let a = c.args in
    let x = open_lent a.a.now a.table.now a.random.now in
    let m = open_rooms_of (length a.opening.now) (length a.s.now) in
    open_done a.scheme (rule_of_lem a.rule) x m c.open_by-v.result _ a.s.now (c.open_by-v.ensures.opening_value_2, c.open_by-v.ensures.open_holds) c.in-Ok.is c.fixed-f.ensures
    c.requires.opening_value.1
    (open-sized a.scheme (rule_of_lem a.rule) x m c.requires.s_value (record { below = λ i. omega (arith, c.type_inv.random i) }))

pub open_by-v-requires-clause-open_sized : goal.open_by-v-requires-clause-open_sized
open_by-v-requires-clause-open_sized c =
    open-sized c.args.scheme _ _ _ c.requires.s_value (record { below = λ i. omega (arith, c.type_inv.random i) })
