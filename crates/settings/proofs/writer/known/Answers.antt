-- `settings::writer::known` meets its contract.
use Rattle.lists.proofs.Kit.{◌∙◌}
use Rattle.refusals.proofs.Ends.{given_up}
use Rattle.settings.proofs.{Store.known-no-scheme, Store.known-no-rule, Store.known_both}
use Rattle.settings.proofs.writer.known.Goals as goal

pub returns-in_err-try_from : goal.returns-in_err-try_from
returns-in_err-try_from c = given_up _ c.from_residual.ensures ∙ known-no-scheme c.args.scheme c.args.rule c.in_err-try_from.ensures

pub returns-in_err-ok_or : goal.returns-in_err-ok_or
returns-in_err-ok_or c =
    given_up _ c.from_residual-in_err-ok_or.ensures
    ∙ known-no-rule c.args.scheme c.args.rule c.in_ok-try_from.ensures c.rule_of.ensures c.in_err-ok_or.ensures.value

pub returns : goal.returns
returns c = known_both c.args.scheme c.args.rule c.in_ok-try_from.ensures c.rule_of.ensures c.in_ok-ok_or.ensures.ok_part
