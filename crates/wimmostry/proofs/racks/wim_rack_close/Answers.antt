-- `wimmostry::racks::wim_rack_close` meets its contract: its numbers are the verdict's.
use Rattle.lists.proofs.Kit.{rules}
use Rattle.wimmostry.proofs.racks.wim_rack_close.Goals as goal

pub returns : goal.returns
returns c = rw (c.tell_verdict.ensures.0, c.tell_verdict.ensures.1) (search rules)
