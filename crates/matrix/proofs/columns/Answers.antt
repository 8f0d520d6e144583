-- `matrix::columns` meets its contract: it lays the words of the values.
use Rattle.lists.proofs.Kit.{rules}
use Rattle.numbers.specs.Residue.{residue}
use Rattle.lists.specs.Entries.{ints}
use Rattle.matrix.specs.Words.{columns_of}
use Rattle.matrix.proofs.columns.Goals as goal

pub returns : goal.returns
unfolding columns_of ints
returns c = c.lay.ensures (λ k. residue 65536 (ints c.args.s.now k)) (λ k r l e. search rules)
