-- `session_bytes::open` meets its contract: 10, a refusal of the call beneath, or its answer.
use Rattle.lists.proofs.Kit.{◌∙◌, sym, rules}
use Rattle.session.proofs.Laws.{bars, allows}
use Rattle.session_bytes.proofs.{Drawn.idle-long, Drawn.open-stops, Drawn.open-refused, Drawn.open_done}
use Rattle.session_bytes.proofs.open.Goals as goal

pub returns : goal.returns
returns c =
    open_done _ _ _ _ _ _ _ c.open-opened.result (sym c.takes.ensures ∙ c.if-not-takes.false) c.open-opened.ensures c.in-Ok.is c.offered-next.ensures
    c.lay_out.ensures

pub returns-then-not-takes : goal.returns-then-not-takes
returns-then-not-takes c = search (rules, open-stops, bars)

pub returns-in_default : goal.returns-in_default
returns-in_default c = search (rules, open-refused, allows)

pub lay_out-requires : goal.lay_out-requires
lay_out-requires c = search (rules, idle-long, allows)
