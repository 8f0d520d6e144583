-- `settings::reader::tail` meets its contract.
use Rattle.lists.proofs.Kit.{ap, arith}
use Rattle.settings.specs.Calls.{answer_of}
use Rattle.settings.proofs.{Steps.tail_more}
use Rattle.settings.proofs.reader.tail.Goals as goal

pub returns-then-at-s : goal.returns-then-at-s
returns-then-at-s c =
    ap answer_of (tail_more c.args.format c.args.scheme c.args.rule c.args.s.now c.args.at (omega arith) (omega arith))
