-- What open promises: Offer on inputs that it makes of random bytes, by Grow and Noise. s leaves the call; e and grown public numbers do not.
--   OpenLent, OpenRooms    what open is lent: public a, table, random bytes; and the rooms of its outputs
--   OpenSeen               what its caller sees
--   drawn_offer c a x       what Offer is lent by the public numbers a: seed, s and e are cut from the random bytes, in this order
--   open_offer c k x        what Offer is lent: NewHope's public numbers are grown from the seed
--   open_tests c k x m      its tests in 01's order: 1, 12, 2, 3, 18, 4, 7, 17
--   open_result c k x m     its promise: what is seen, as a function of what is lent; open_shown v: by the verdict v of any tests
--   open_lent                what is lent
--   open_rooms, open_rooms_of   the rooms, from the outputs of a contract and from numbers
--   open_told r             the numbers of its answer r
--   open_seen t opening s   what is seen where open tells t and leaves these outputs
use Rattle.std.specs.Prelude.{Ok, Err, Some, None, Option, Result, List, [], ℕ, ◌+◌, ℤ, pos, length, take}
use Rattle.noise.specs.declared.RuleName.{RuleName}
use Rattle.schemes.specs.{Schemes.fixed_of, declared.Scheme.Scheme}
use Rattle.refusals.specs.Refusals.{number_in, place_in, ◌then◌, length_is_lem, room_for_lem, publics_in_lem, not_blank_lem}
use Rattle.refusals.specs.{Seen.Output, Seen.output, Seen.written, Seen.Told, Seen.done, Seen.refused, Refusals.Verdict, declared.Refusal.Refusal}
use Rattle.sampling.specs.Noise.{table_words}
use Rattle.offer.specs.Offer.{Offer, offer, offered_part, offer_message}
use Rattle.exchange.specs.Random.{secret_bytes, open_random, cut, values_in, public_lent, public_from, ruled_in, table_order, grown}
pub use Rattle.exchange.specs.{declared.OpenCounts.OpenCounts}

pub record OpenLent : Type 0 where
  pub a : List ℕ
  pub table : List ℕ
  pub random : List ℕ

pub record OpenRooms : Type 0 where
  pub opening : ℕ
  pub s : ℕ

pub record OpenSeen : Type 0 where
  pub number : ℕ
  pub place : ℕ
  pub opening : Output ℕ
  pub s : Output ℤ

unfoldable pub drawn_offer : Scheme → List ℕ → OpenLent → Offer
drawn_offer c a x =
    offer a
    (values_in c x.table (cut (fixed_of c).seed (secret_bytes c) x.random))
    (values_in c x.table (cut ((fixed_of c).seed + secret_bytes c) (secret_bytes c) x.random))
    (take (fixed_of c).seed x.random)

unfoldable pub open_offer : Option Scheme → Option RuleName → OpenLent → Offer
open_offer None k x = offer [] [] [] []
open_offer (Some c) k x = drawn_offer c (public_from c k (take (fixed_of c).seed x.random) x.a) x

unfoldable pub open_tests : Option Scheme → Option RuleName → OpenLent → OpenRooms → Verdict
open_tests None k x m = Err Refusal.NoScheme
open_tests (Some c) k x m =
    ruled_in k
    then length_is_lem (length x.a) (public_lent c)
    then length_is_lem (length x.table) (table_words c)
    then length_is_lem (length x.random) (open_random c)
    then room_for_lem m.opening (fixed_of c).opening
    then room_for_lem m.s (fixed_of c).secret
    then table_order c x.table
    then publics_in_lem (fixed_of c).q x.a
    then grown c k (take (fixed_of c).seed x.random)
    then not_blank_lem (offered_part c (open_offer (Some c) k x))

-- ---- the promise

unfoldable pub open_shown : Verdict → Option Scheme → Option RuleName → OpenLent → OpenRooms → OpenSeen
open_shown v c k x m =
    record {
      number = number_in v;
      place = place_in v;
      opening = written v (offer_message c (open_offer c k x)) 0 m.opening;
      s = written v (open_offer c k x).s (pos 0) m.s;
    }

abbrev pub open_result : Option Scheme → Option RuleName → OpenLent → OpenRooms → OpenSeen
open_result c k x m = open_shown (open_tests c k x m) c k x m

-- ---- of a call

abbrev pub open_lent : List ℕ → List ℕ → List ℕ → OpenLent
open_lent a table random = record { a = a; table = table; random = random }

abbrev pub open_rooms_of : ℕ → ℕ → OpenRooms
open_rooms_of opening s = record { opening = opening; s = s }

abbrev pub open_rooms : List ℕ → List ℤ → OpenRooms
open_rooms opening s = open_rooms_of (length opening) (length s)

abbrev pub open_told : Result OpenCounts Refusal → Told OpenCounts
open_told (Ok n) = done n
open_told (Err r) = refused r (record { opening = 0; s = 0 })

unfoldable pub open_seen : Told OpenCounts → List ℕ → List ℤ → OpenSeen
open_seen t opening s =
    record { number = t.number; place = t.place; opening = output t.counts.opening opening; s = output t.counts.s s }
