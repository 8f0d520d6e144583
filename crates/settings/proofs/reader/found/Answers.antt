-- `settings::reader::found` meets its contract.
use Rattle.lists.proofs.Kit.{ap, List, ℕ, length}
use Rattle.settings.specs.Calls.{Settings}
use Rattle.settings.proofs.{Steps.padded}
use Rattle.settings.proofs.reader.found.Goals as goal

pub returns : goal.returns
returns c =
    ap {B = Settings} (λ (l : List ℕ). record { scheme = c.args.scheme; rule = c.args.rule; label = l; count = length c.args.label.now })
    (padded c.args.label.now c.copy_from_slice.ensures.after)
