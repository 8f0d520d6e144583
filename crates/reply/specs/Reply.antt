-- What Reply promises: 01, "The calls", "Bytes on the wire" and "Refusal numbers and their order"; its digest and a blank part: 02, requests c and l.
--   Reply, ReplyRooms         what Reply is lent: opening message, public a, s', e', e'', coins; and the rooms of its outputs
--   ReplySeen                 what its caller sees
--   opened_of c x              b, the numbers of the opening
--   reply_value c x            v = bs' + e''
--   replied_part c a s' e'     u = as' + e' packed
--   reply_tests c x m          its tests in 01's order, with the rooms m
--   reply_message c x          the reply message: u's part, and the hints of v
--   reply_key c x              the key: the published bits of v; reply_digest: the key's digest
--   reply_result c x m         its promise: what is seen, as a function of what is lent, in the scheme c; reply_shown v: by the verdict v of any tests; outputs v: of
--                             any three outputs
--   reply                      what is lent
--   reply_rooms, reply_rooms_of   the rooms, from the outputs of a contract and from numbers
--   reply_told r               the numbers of its answer r
--   reply_seen t message key digest   what is seen where Reply tells t and leaves these outputs
use Rattle.std.specs.Prelude.{Ok, Err, Some, None, Option, Result, List, [], ◌++◌, ℕ, ℤ, length}
use Rattle.refusals.specs.declared.Refusal.{Refusal}
use Rattle.schemes.specs.{Schemes.fixed_of, declared.Scheme.Scheme}
use Rattle.packing.specs.Packing.{packed}
use Rattle.sponge.specs.Sponge.{sha3}
use Rattle.refusals.specs.Refusals.{number_in, place_in, ◌then◌, length_is_lem, room_for_lem, publics_in_lem, message_in, not_blank_lem, secrets_in_lem}
use Rattle.refusals.specs.Seen.{Output, output, written, Told, done, refused}
use Rattle.refusals.specs.{Refusals.Verdict, declared.Refusal.TheVariants.NoScheme}
use Rattle.values.specs.{Values.replied, Values.mixed_value, Keys.hints, Keys.keys}
use Rattle.wire.specs.Wire.{opened_in, numbers_in, coins_in}
pub use Rattle.reply.specs.{declared.ReplyCounts.ReplyCounts}

pub record Reply : Type 0 where
  pub opening : List ℕ
  pub a : List ℕ
  pub s' : List ℤ
  pub e' : List ℤ
  pub e'' : List ℤ
  pub coins : List ℕ

pub record ReplyRooms : Type 0 where
  pub message : ℕ
  pub key : ℕ
  pub digest : ℕ

pub record ReplySeen : Type 0 where
  pub number : ℕ
  pub place : ℕ
  pub message : Output ℕ
  pub key : Output ℕ
  pub digest : Output ℕ

unfoldable pub opened_of : Scheme → Reply → List ℕ
opened_of c x = numbers_in c (opened_in c x.opening)

unfoldable pub reply_value : Scheme → Reply → List ℕ
reply_value c x = mixed_value c (opened_of c x) x.s' x.e''

abbrev pub replied_part : Scheme → List ℕ → List ℤ → List ℤ → List ℕ
replied_part c a s' e' = packed (fixed_of c).width (replied c a s' e')

unfoldable pub reply_tests : Option Scheme → Reply → ReplyRooms → Verdict
reply_tests None x m = Err NoScheme
reply_tests (Some c) x m =
    length_is_lem (length x.opening) (fixed_of c).opening
    then length_is_lem (length x.a) (fixed_of c).public
    then length_is_lem (length x.s') (fixed_of c).secret
    then length_is_lem (length x.e') (fixed_of c).noise
    then length_is_lem (length x.e'') (fixed_of c).mixed
    then length_is_lem (length x.coins) (fixed_of c).coins
    then room_for_lem m.message (fixed_of c).reply
    then room_for_lem m.key (fixed_of c).key
    then room_for_lem m.digest 32
    then publics_in_lem (fixed_of c).q x.a
    then message_in (fixed_of c).q (opened_of c x)
    then not_blank_lem (opened_in c x.opening)
    then secrets_in_lem (fixed_of c).largest x.s'
    then secrets_in_lem (fixed_of c).largest x.e'
    then secrets_in_lem (fixed_of c).largest x.e''
    then not_blank_lem (replied_part c x.a x.s' x.e')

unfoldable pub reply_message : Option Scheme → Reply → List ℕ
reply_message None x = []
reply_message (Some c) x = replied_part c x.a x.s' x.e' ++ packed (fixed_of c).hintbits (hints c (coins_in c x.coins) (reply_value c x))

unfoldable pub reply_key : Option Scheme → Reply → List ℕ
reply_key None x = []
reply_key (Some c) x = packed (fixed_of c).keybits (keys c (coins_in c x.coins) (reply_value c x))

abbrev pub reply_digest : Option Scheme → Reply → List ℕ
reply_digest c x = sha3 (reply_key c x)

-- ---- the promise

unfoldable pub outputs : Verdict → List ℕ → List ℕ → List ℕ → ReplyRooms → ReplySeen
outputs v message key digest m =
    record {
      number = number_in v;
      place = place_in v;
      message = written v message 0 m.message;
      key = written v key 0 m.key;
      digest = written v digest 0 m.digest;
    }

abbrev pub reply_shown : Verdict → Option Scheme → Reply → ReplyRooms → ReplySeen
reply_shown v c x m = outputs v (reply_message c x) (reply_key c x) (reply_digest c x) m

abbrev pub reply_result : Option Scheme → Reply → ReplyRooms → ReplySeen
reply_result c x m = reply_shown (reply_tests c x m) c x m

-- ---- of a call

abbrev pub reply : List ℕ → List ℕ → List ℤ → List ℤ → List ℤ → List ℕ → Reply
reply opening a s' e' e'' coins = record { opening = opening; a = a; s' = s'; e' = e'; e'' = e''; coins = coins }

abbrev pub reply_rooms_of : ℕ → ℕ → ℕ → ReplyRooms
reply_rooms_of message key digest = record { message = message; key = key; digest = digest }

abbrev pub reply_rooms : List ℕ → List ℕ → List ℕ → ReplyRooms
reply_rooms message key digest = reply_rooms_of (length message) (length key) (length digest)

abbrev pub reply_told : Result ReplyCounts Refusal → Told ReplyCounts
reply_told (Ok n) = done n
reply_told (Err r) = refused r (record { message = 0; key = 0; digest = 0 })

unfoldable pub reply_seen : Told ReplyCounts → List ℕ → List ℕ → List ℕ → ReplySeen
reply_seen t message key digest =
    record {
      number = t.number;
      place = t.place;
      message = output t.counts.message message;
      key = output t.counts.key key;
      digest = output t.counts.digest digest;
    }
