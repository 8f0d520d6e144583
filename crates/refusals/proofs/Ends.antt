-- What ends a call by `?`.
--   given_up     the refusal that `?` hands on
use Rattle.lists.proofs.Kit.{ap}
use Rattle.std.proofs.Common.{◌≡◌, Ok, Err, Result, IsErr, IsErrAnd}
use Rattle.refusals.specs.Refusals.{Refusal}

pub given_up : {A : Type 0} (r : Result A Refusal) {e : Refusal} → IsErr r × IsErrAnd r (λ y. y ≡ e) → r ≡ Err e
given_up (Ok a) h = absurd h.1
given_up (Err y) h = ap Err h.1
