-- `matrix::turn` meets its contract: it lays the numbers.
use Rattle.lists.proofs.Kit.{rules, get_or}
use Rattle.matrix.specs.Steps.{turned}
use Rattle.matrix.proofs.turn.Goals as goal

pub returns : goal.returns
unfolding turned
returns c = c.lay.ensures (λ k. get_or c.args.y.now k 0) (λ k r l e. search rules)
