-- `settings::is_rule` meets its contract.
use Rattle.settings.proofs.{Known.rule-known}
use Rattle.settings.proofs.is_rule.Goals as goal

pub returns : goal.returns
returns c = rule-known c.args.n
