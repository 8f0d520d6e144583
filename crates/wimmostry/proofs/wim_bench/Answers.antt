-- `wimmostry::wim_bench` meets its contract: its numbers are the answer's.
use Rattle.lists.proofs.Kit.{rules}
use Rattle.bench.proofs.Comparison.{differ-few}
use Rattle.wimmostry.proofs.wim_bench.Goals as goal

pub tell_bench-requires : goal.tell_bench-requires
tell_bench-requires c = differ-few _ _ c.bench-answer.result c.bench-answer.ensures

pub returns : goal.returns
returns c = rw c.tell_bench.ensures (search rules)
