-- `polynomial::mix` meets its contract: zeros are below q.
use Rattle.lists.proofs.Entries.{below-zeros}
use Rattle.polynomial.proofs.mix.Goals as goal

pub mix_lent-requires-clause-fit : goal.mix_lent-requires-clause-fit
mix_lent-requires-clause-fit c = (c.requires.fit, c.requires.e_len, below-zeros 4096 c.requires.fit.some)
