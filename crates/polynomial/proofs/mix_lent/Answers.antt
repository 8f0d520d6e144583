-- `polynomial::mix_lent` meets its contract.
use Rattle.lists.proofs.Kit.{◌∙◌}
use Rattle.polynomial.proofs.{Window.all-ready, Window.mixed-made}
use Rattle.polynomial.proofs.mix_lent.Goals as goal

pub windows-requires-clause-ready : goal.windows-requires-clause-ready
windows-requires-clause-ready c = all-ready c.requires.fit.0 c.lay_window.ensures c.reverse.ensures

pub returns : goal.returns
returns c = c.entries.ensures ∙ mixed-made c.requires.fit.0 c.lay_window.ensures c.reverse.ensures _ _ c.windows.ensures
