-- `session_bytes::answer` meets its contract: 10, a refusal of the call beneath, or its answer.
use Rattle.lists.proofs.Kit.{◌∙◌, sym, rules}
use Rattle.session.proofs.Laws.{bars, allows}
use Rattle.session_bytes.proofs.{Drawn.idle-long, Drawn.answer-stops, Drawn.answer-refused, Drawn.answer-done}
use Rattle.session_bytes.proofs.answer.Goals as goal

pub returns : goal.returns
returns c =
    answer-done _ _ _ _ _ _ _ _ c.answer-reply.result c.answer-reply.ensures (sym c.takes.ensures ∙ c.if-not-takes.false) c.in-Ok.is c.keyed-next.ensures
    c.lay_out.ensures

pub returns-then-not-takes : goal.returns-then-not-takes
returns-then-not-takes c = search (rules, answer-stops, bars)

pub returns-in_default : goal.returns-in_default
returns-in_default c = search (rules, answer-refused, allows)

pub lay_out-requires : goal.lay_out-requires
lay_out-requires c = search (rules, idle-long, allows)
