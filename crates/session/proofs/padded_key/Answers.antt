-- `session::padded_key` meets its contract.
use Rattle.session.proofs.Laws.{padded-law}
use Rattle.session.proofs.padded_key.Goals as goal

pub returns : goal.returns
returns c = padded-law _ _ _ _ c.min.ensures c.min-count.ensures c.no_key-place.ensures c.copy_from_slice.ensures.after
