-- `session_bytes::key_length` meets its contract.
use Rattle.lists.proofs.Kit.{refl}
use Rattle.schemes.proofs.Sound.{sound}
use Rattle.session_bytes.proofs.key_length.Goals as goal

pub returns-in-Keyed : goal.returns-in-Keyed
returns-in-Keyed c = rw (c.in-Keyed.is, c.fixed.ensures) (refl, (sound c.in-Keyed.known).keys)
