-- `settings::not_allowed` meets its contract.
use Rattle.settings.proofs.{Known.not-allowed}
use Rattle.settings.proofs.not_allowed.Goals as goal

pub returns : goal.returns
returns c = rw (c.is_ascii_digit.ensures.value, c.is_ascii_uppercase.ensures.value) (not-allowed c.args.c)
