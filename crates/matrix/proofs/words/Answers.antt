-- `matrix::words` meets its contract: it fills with the words of the values.
use Rattle.lists.proofs.Kit.{arith, rules}
use Rattle.lists.specs.Entries.{ints}
use Rattle.lists.proofs.Fill.{fill_start, fill-next, fill-whole}
use Rattle.matrix.specs.Words.{words_of}
use Rattle.matrix.proofs.words.Goals as goal

pub loop-k-preserved : goal.loop-k-preserved
unfolding ints
loop-k-preserved c =
    fill-next _ c.loop-k.invariant (omega arith) (search rules)

pub returns : goal.returns
unfolding words_of
returns c =
    fill-whole c.loop-k.invariant (omega arith) (omega arith)

pub loop-k-init : goal.loop-k-init
loop-k-init c = fill_start _ _
