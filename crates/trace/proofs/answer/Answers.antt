-- `trace::answer` meets its contract.
use Rattle.lists.proofs.Kit.{ap, arith, length}
use Rattle.text.proofs.Answer.{answers}
use Rattle.trace.proofs.{Short.answered-short}
use Rattle.trace.proofs.answer.Goals as goal

pub write-requires : goal.write-requires
write-requires c =
    let xs = c.args.text.now in
    omega (arith, ap length c.count.ensures, answered-short xs)

pub returns : goal.returns
returns c =
    answers 372 c.count.ensures c.write.ensures
