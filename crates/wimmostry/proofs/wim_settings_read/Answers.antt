-- `wimmostry::wim_settings_read` meets its contract: its numbers are the answer's.
use Rattle.lists.proofs.Kit.{rules}
use Rattle.wimmostry.proofs.wim_settings_read.Goals as goal

pub returns : goal.returns
returns c = rw c.tell_settings.ensures (search rules)
