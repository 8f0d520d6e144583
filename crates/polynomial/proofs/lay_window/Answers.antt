-- `polynomial::lay_window` meets its contract.
use Rattle.lists.proofs.Kit.{◌+◌, ◌-◌, arith, length}
use Rattle.polynomial.proofs.{Window.laid-window, Stores.copied-back}
use Rattle.polynomial.proofs.lay_window.Goals as goal

pub returns : goal.returns
returns c =
    let n = length c.args.a.now - 1 in
    laid-window _ _ _ _ (omega (arith, c.requires.below.0.below 0)) c.requires.a_nonzero.0 c.requires.a_nonzero.1 c.requires.below.0 c.requires.below.1 c.lay_negatives.ensures
    (copied-back n (n + length c.args.a.now) c.lay_negatives.new.d _ c.args.a.now (omega arith) (omega (arith, c.lay_negatives.ensures.long, c.requires.a_nonzero.1)) c.copy_from_slice.ensures.after)
