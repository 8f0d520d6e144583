-- `matrix::narrow_below` meets its contract.
use Rattle.lists.proofs.Kit.{arith}
use Rattle.matrix.proofs.{Search.all-clear}
use Rattle.matrix.proofs.narrow_below.Goals as goal

pub returns-then-narrow_bits-q-clause-value : goal.returns-then-narrow_bits-q-clause-value
returns-then-narrow_bits-q-clause-value c =
    all-clear c.args.q c.args.xs.now (λ k p. omega (arith, c.narrow_bits.ensures.by_index k p, c.if-narrow_bits-q.true))
