-- `wimmostry::by_rows::wim_rows_reply_part` meets its contract: its numbers are the verdict's.
use Rattle.lists.proofs.Kit.{rules}
use Rattle.rows_state.specs.Part.{state_seen}
use Rattle.wimmostry.proofs.by_rows.wim_rows_reply_part.Goals as goal

pub returns : goal.returns
returns c = unfold state_seen in rw (c.tell_verdict.ensures.0, c.tell_verdict.ensures.1) (search rules)
