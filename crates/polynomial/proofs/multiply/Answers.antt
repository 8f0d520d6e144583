-- `polynomial::multiply` meets its contract: the noise that it lends is 0.
use Rattle.lists.proofs.Kit.{◌∙◌, length}
use Rattle.lists.proofs.Parts.{zeros_within}
use Rattle.polynomial.proofs.{Window.mixed-bare}
use Rattle.polynomial.proofs.multiply.Goals as goal

pub returns : goal.returns
returns c =
    c.mix.ensures ∙ mixed-bare _ _ _ _ _ (zeros_within 0 (length c.args.out.now) 1024)
