-- What Finish promises: 01, "The calls", "Bytes on the wire" and "Refusal numbers and their order"; its digest, a blank part and the
-- slack: 02, requests c, l and f.
--   Finish, FinishRooms       what Finish is lent: reply message, secret s; and the rooms of its outputs
--   FinishSeen                what its caller sees
--   replied_of c x             u, the numbers of the reply
--   finish_value c x           w = us
--   finish_tests c x m         its tests in 01's order, with the rooms m
--   finish_key c x             the key: the bits of w under the hints
--   finish_slack c x           the largest slack of an entry of w, and its first index
--   finish_result c x m        its promise: what is seen, as a function of what is lent, in the scheme c; finish_shown v: by the verdict v of any tests
--   finish                     what is lent
--   finish_rooms, finish_rooms_of   the rooms, from the outputs of a contract and from numbers
--   finish_told r              the numbers of its answer r
--   finish_seen t key digest   what is seen where Finish tells t and leaves these outputs
use Rattle.std.specs.Prelude.{Ok, Err, Some, None, Option, Result}
use Rattle.refusals.specs.declared.Refusal.{Refusal}
use Rattle.std.specs.Prelude.{List, [], ℕ, ℤ, length}
use Rattle.schemes.specs.{Schemes.fixed_of, declared.Scheme.Scheme}
use Rattle.lists.specs.{First.peak_of_lem, declared.Peak.Peak}
use Rattle.packing.specs.Packing.{packed}
use Rattle.sponge.specs.Sponge.{sha3}
use Rattle.refusals.specs.Refusals.{number_in, place_in, ◌then◌, length_is_lem, room_for_lem, message_in, not_blank_lem, secrets_in_lem}
use Rattle.refusals.specs.Seen.{Output, output, written, if_passed, unused, Told, done, refused}
use Rattle.refusals.specs.{Refusals.Verdict, declared.Refusal.TheVariants.NoScheme}
use Rattle.values.specs.{Values.bare_value, Keys.peers, Keys.slacks}
use Rattle.wire.specs.Wire.{replied_in, numbers_in, hints_in}
pub use Rattle.finish.specs.{declared.FinishCounts.FinishCounts}

pub record Finish : Type 0 where
  pub reply : List ℕ
  pub s : List ℤ

pub record FinishRooms : Type 0 where
  pub key : ℕ
  pub digest : ℕ

pub record FinishSeen : Type 0 where
  pub number : ℕ
  pub place : ℕ
  pub key : Output ℕ
  pub digest : Output ℕ
  pub slack : Peak

unfoldable pub replied_of : Scheme → Finish → List ℕ
replied_of c x = numbers_in c (replied_in c x.reply)

unfoldable pub finish_value : Scheme → Finish → List ℕ
finish_value c x = bare_value c (replied_of c x) x.s

unfoldable pub finish_tests : Option Scheme → Finish → FinishRooms → Verdict
finish_tests None x m = Err NoScheme
finish_tests (Some c) x m =
    length_is_lem (length x.reply) (fixed_of c).reply
    then length_is_lem (length x.s) (fixed_of c).secret
    then room_for_lem m.key (fixed_of c).key
    then room_for_lem m.digest 32
    then message_in (fixed_of c).q (replied_of c x)
    then not_blank_lem (replied_in c x.reply)
    then secrets_in_lem (fixed_of c).largest x.s

unfoldable pub finish_key : Option Scheme → Finish → List ℕ
finish_key None x = []
finish_key (Some c) x = packed (fixed_of c).keybits (peers c (hints_in c x.reply) (finish_value c x))

unfoldable pub finish_slack : Option Scheme → Finish → Peak
finish_slack None x = peak_of_lem []
finish_slack (Some c) x = peak_of_lem (slacks c (hints_in c x.reply) (finish_value c x))

-- ---- the promise

unfoldable pub finish_shown : Verdict → Option Scheme → Finish → FinishRooms → FinishSeen
finish_shown v c x m =
    record {
      number = number_in v;
      place = place_in v;
      key = written v (finish_key c x) 0 m.key;
      digest = written v (sha3 (finish_key c x)) 0 m.digest;
      slack = if_passed v (finish_slack c x) unused;
    }

abbrev pub finish_result : Option Scheme → Finish → FinishRooms → FinishSeen
finish_result c x m = finish_shown (finish_tests c x m) c x m

-- ---- of a call

abbrev pub finish : List ℕ → List ℤ → Finish
finish reply s = record { reply = reply; s = s }

abbrev pub finish_rooms_of : ℕ → ℕ → FinishRooms
finish_rooms_of key digest = record { key = key; digest = digest }

abbrev pub finish_rooms : List ℕ → List ℕ → FinishRooms
finish_rooms key digest = finish_rooms_of (length key) (length digest)

abbrev pub finish_told : Result FinishCounts Refusal → Told FinishCounts
finish_told (Ok n) = done n
finish_told (Err r) = refused r (record { key = 0; digest = 0; slack = unused })

unfoldable pub finish_seen : Told FinishCounts → List ℕ → List ℕ → FinishSeen
finish_seen t key digest =
    record {
      number = t.number;
      place = t.place;
      key = output t.counts.key key;
      digest = output t.counts.digest digest;
      slack = t.counts.slack;
    }
