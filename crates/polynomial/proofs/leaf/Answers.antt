-- `polynomial::leaf` meets its contract.
use Rattle.lists.proofs.Kit.{arith}
use Rattle.polynomial.proofs.{Level.laid-high, Level.laid-low, Level.sums-small, Level.leaf-made}
use Rattle.polynomial.proofs.leaf.Goals as goal

pub dots-requires : goal.dots-requires
dots-requires c = (laid-high c.requires.ready c.lay_halves.ensures c.requires.n_in_bounds.1, omega arith)

pub dots-requires-2 : goal.dots-requires-2
dots-requires-2 c = (laid-low c.requires.ready c.lay_halves.ensures c.requires.n_in_bounds.1, omega (arith, c.dots.ensures.long))

pub put_together-requires : goal.put_together-requires
put_together-requires c = (omega (arith, c.dots.ensures.long, c.dots-2.ensures.long), sums-small c.requires.ready c.lay_halves.ensures c.requires.n_in_bounds.1 c.dots.ensures c.dots-2.ensures)

pub returns : goal.returns
returns c = leaf-made c.requires.ready c.lay_halves.ensures c.requires.n_in_bounds.1 c.dots.ensures c.dots-2.ensures c.put_together.ensures
