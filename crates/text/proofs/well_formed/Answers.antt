-- `text::well_formed` meets its contract: the tests one by one.
use Rattle.lists.proofs.Kit.{arith}
use Rattle.text.proofs.{Reading.few, Reading.many, Reading.ended, Reading.formed}
use Rattle.text.proofs.well_formed.Goals as goal

pub returns-then-n-lt1 : goal.returns-then-n-lt1
returns-then-n-lt1 c = few _ (omega arith)

pub returns-then-n-gt10 : goal.returns-then-n-gt10
returns-then-n-gt10 c = many _ (omega arith) (omega arith)

pub returns-then-s-n : goal.returns-then-s-n
returns-then-s-n c = ended _ (omega arith) (omega arith) (omega arith)

pub returns : goal.returns
returns c = rw c.requires (formed c.args.s.now (omega arith) (omega arith))
