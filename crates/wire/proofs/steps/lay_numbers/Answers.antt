-- `wire::steps::lay_numbers` meets its contract: where the numbers are not blank, bytes.
use Rattle.lists.proofs.Kit.{◌∙◌}
use Rattle.refusals.proofs.Ends.{given_up}
use Rattle.wire.proofs.{Travel.told-blank}
use Rattle.wire.proofs.steps.lay_numbers.Goals as goal

pub returns-in_err-not_blank-clause-value : goal.returns-in_err-not_blank-clause-value
returns-in_err-not_blank-clause-value c =
    given_up _ c.from_residual.ensures ∙ told-blank c.args.scheme c.requires.counted c.in_err-not_blank.ensures

pub returns-clause-value : goal.returns-clause-value
returns-clause-value c = told-blank c.args.scheme c.requires.counted c.in_ok-not_blank.ensures
