-- What Offer promises: 01, "The calls", "Bytes on the wire" and "Refusal numbers and their order"; a blank part: 02, request l.
--   Offer               what Offer is lent: public a, secret s, noise e, seed
--   offered_part c x     b = as + e packed
--   offer_tests c x n    its tests in 01's order, with room for n bytes of message
--   offer_message c x    the opening message: the seed and b's part
--   offer_result c x n   its promise: what is seen, as a function of what is lent, in the scheme c with room for n bytes
--   offer             what is lent
use Rattle.std.specs.Prelude.{Err, Some, None, Option}
use Rattle.std.specs.Prelude.{List, [], ℕ, ℤ, length}
use Rattle.schemes.specs.{Schemes.fixed_of, declared.Scheme.Scheme}
use Rattle.packing.specs.Packing.{packed}
use Rattle.refusals.specs.Refusals.{◌then◌, length_is_lem, room_for_lem, publics_in_lem, not_blank_lem, secrets_in_lem}
use Rattle.refusals.specs.{Seen.Seen, Seen.shown, Refusals.Verdict, declared.Refusal.TheVariants.NoScheme}
use Rattle.values.specs.Values.{offered}
use Rattle.wire.specs.Wire.{opening}

pub record Offer : Type 0 where
  pub a : List ℕ
  pub s : List ℤ
  pub e : List ℤ
  pub seed : List ℕ

abbrev pub offered_part : Scheme → Offer → List ℕ
offered_part c x = packed (fixed_of c).width (offered c x.a x.s x.e)

unfoldable pub offer_tests : Option Scheme → Offer → ℕ → Verdict
offer_tests None x n = Err NoScheme
offer_tests (Some c) x n =
    length_is_lem (length x.a) (fixed_of c).public
    then length_is_lem (length x.s) (fixed_of c).secret
    then length_is_lem (length x.e) (fixed_of c).noise
    then length_is_lem (length x.seed) (fixed_of c).seed
    then room_for_lem n (fixed_of c).opening
    then publics_in_lem (fixed_of c).q x.a
    then secrets_in_lem (fixed_of c).largest x.s
    then secrets_in_lem (fixed_of c).largest x.e
    then not_blank_lem (offered_part c x)

unfoldable pub offer_message : Option Scheme → Offer → List ℕ
offer_message None x = []
offer_message (Some c) x = opening c x.seed (offered_part c x)

abbrev pub offer_result : Option Scheme → Offer → ℕ → Seen ℕ
offer_result c x n = shown (offer_tests c x n) (offer_message c x) 0 n

-- ---- of a call

abbrev pub offer : List ℕ → List ℤ → List ℤ → List ℕ → Offer
offer a s e seed = record { a = a; s = s; e = e; seed = seed }
