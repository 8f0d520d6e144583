-- What is shown of Finish beside its promise.
--   FinishSeenAll    `finish_seen` forgets nothing: from what is seen come all numbers of the answer and the two outputs
--   FinishToldAll    `finish_told` forgets nothing: two answers with the same numbers are the same
--   FinishEnough c m no room of m is shorter than its answer
--   ReplyComesBack   demand 2: a reply that is accepted comes back the same when it is unpacked and packed again
--   NoSlack          request f: NewHope gives slack 0 and index 0
--   KeysFit          its key is as long as the scheme says, and at most 128 bytes
use Rattle.std.specs.Prelude.{Some, Result}
use Rattle.refusals.specs.declared.Refusal.{Refusal}
use Rattle.std.specs.Prelude.{◌≡◌, List, ◌++◌, ℕ, ◌≤◌, length}
use Rattle.schemes.specs.{Schemes.family_of, Schemes.fixed_of, declared.Family.Family, declared.Scheme.Scheme}
use Rattle.lists.specs.Ranges.{Below}
use Rattle.packing.specs.Packing.{packed}
use Rattle.refusals.specs.{Seen.Told, Refusals.pass}
use Rattle.wire.specs.Wire.{hints_in}
use Rattle.finish.specs.Finish.{Finish, FinishRooms, replied_of, finish_tests, finish_key, finish_slack, finish_told, finish_seen, FinishCounts}

abbrev pub FinishSeenAll : Type 0
FinishSeenAll =
    (t t' : Told FinishCounts) (key key' digest digest' : List ℕ) → finish_seen t key digest ≡ finish_seen t' key' digest'
    → (t ≡ t') × (key ≡ key') × (digest ≡ digest')

abbrev pub FinishToldAll : Type 0
FinishToldAll = (r r' : Result FinishCounts Refusal) → finish_told r ≡ finish_told r' → r ≡ r'

abbrev pub FinishEnough : Scheme → FinishRooms → Type 0
FinishEnough c m = ((fixed_of c).key ≤ m.key) × (32 ≤ m.digest)

abbrev pub ReplyComesBack : Type 0
ReplyComesBack =
    (c : Scheme) (x : Finish) (m : FinishRooms) → Below 256 x.reply → finish_tests (Some c) x m ≡ pass
    → packed (fixed_of c).width (replied_of c x) ++ packed (fixed_of c).hintbits (hints_in c x.reply) ≡ x.reply

abbrev pub NoSlack : Type 0
NoSlack = (c : Scheme) (x : Finish) → family_of c ≡ Family.NewHope → finish_slack (Some c) x ≡ record { most = 0; at = 0 }

abbrev pub KeysFit : Type 0
KeysFit = (c : Scheme) (x : Finish) → (length (finish_key (Some c) x) ≡ (fixed_of c).key) × ((fixed_of c).key ≤ 128)
