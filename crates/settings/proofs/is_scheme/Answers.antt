-- `settings::is_scheme` meets its contract.
use Rattle.settings.proofs.{Known.scheme-known}
use Rattle.settings.proofs.is_scheme.Goals as goal

pub returns : goal.returns
returns c = scheme-known c.args.n
