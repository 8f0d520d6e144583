-- What is shown of Reply beside its promise.
--   ReplySeenAll       `reply_seen` forgets nothing: from what is seen come all numbers of the answer and the three outputs
--   ReplyToldAll       `reply_told` forgets nothing: two answers with the same numbers are the same
--   OpeningComesBack   demand 2: an opening that is accepted comes back the same when it is unpacked and packed again
--   KeysFit            its key is as long as the scheme says, and at most 128 bytes
use Rattle.std.specs.Prelude.{Some, Result, ◌≡◌, List, ℕ, ◌≤◌, length}
use Rattle.refusals.specs.declared.Refusal.{Refusal}
use Rattle.schemes.specs.{Schemes.fixed_of, declared.Scheme.Scheme}
use Rattle.lists.specs.Ranges.{Below}
use Rattle.packing.specs.Packing.{packed}
use Rattle.refusals.specs.{Seen.Told, Refusals.pass}
use Rattle.wire.specs.Wire.{opening, seed_in}
use Rattle.reply.specs.Reply.{Reply, ReplyRooms, opened_of, reply_tests, reply_key, reply_told, reply_seen, ReplyCounts}

abbrev pub ReplySeenAll : Type 0
ReplySeenAll =
    (t t' : Told ReplyCounts) (message message' key key' digest digest' : List ℕ) → reply_seen t message key digest ≡ reply_seen t' message' key' digest'
    → (t ≡ t') × (message ≡ message') × (key ≡ key') × (digest ≡ digest')

abbrev pub ReplyToldAll : Type 0
ReplyToldAll = (r r' : Result ReplyCounts Refusal) → reply_told r ≡ reply_told r' → r ≡ r'

abbrev pub OpeningComesBack : Type 0
OpeningComesBack =
    (c : Scheme) (x : Reply) (m : ReplyRooms) → Below 256 x.opening → reply_tests (Some c) x m ≡ pass
    → opening c (seed_in c x.opening) (packed (fixed_of c).width (opened_of c x)) ≡ x.opening

abbrev pub KeysFit : Type 0
KeysFit = (c : Scheme) (x : Reply) → (length (reply_key (Some c) x) ≡ (fixed_of c).key) × ((fixed_of c).key ≤ 128)
