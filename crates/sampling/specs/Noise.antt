-- What Noise promises: 01, "The calls", "Noise" and "Refusal numbers and their order", and 02, request m.
--   Noise                        what it is lent: the bytes and the table
--   noise                      what it is lent
--   length_either_lem m x y           2: a length is one of two
--   bytes_each c, table_words c    how many bytes a value takes, and how many words the table has
--   noise_tests_lem c x n             its tests in 01's order, 18 "after 3 and before 4", with room for n values
--   noise_values_lem c x              the values
--   noise_result c x n            what it shows
--   NoisePasses                  no part of what Noise writes is refused as a secret or as noise
--   NeverEighteen                18 cannot arise in the other schemes
--   EighteenSays                 in BCNS its place is "the first entry not above its forerunner", 1 to 50
use Rattle.std.specs.Prelude.{Err, Some, None, Option, ◌≡◌, cond, List, [], ℕ, ◌*◌, ◌/◌, ◌<◌, eqb, ℤ, pos, length, take, drop}
use Rattle.schemes.specs.declared.Scheme.TheVariants.{Bcns, NewHope, Challenge, Classical, Recommended, Paranoid}
use Rattle.schemes.specs.{Schemes.fixed_of, Schemes.family_of, Schemes.by_family, declared.Scheme.Scheme}
use Rattle.lists.specs.Ranges.{Below}
use Rattle.noise.specs.Noise.{new_hope_noise, frodo_noise_lem, d1, d2, d3, d4}
use Rattle.bcns_noise.specs.{Noise.bcns_noise_lem, Noise.first_not_above_lem, Shown.Place}
use Rattle.refusals.specs.Refusals.{number_in, place_in, ◌then◌, length_is_lem, room_for_lem, table_in_lem, secrets_in_lem, pass}
use Rattle.refusals.specs.{Seen.Seen, Seen.shown, Refusals.Verdict, declared.Refusal.TheVariants.NoScheme}

pub record Noise : Type 0 where
  pub bytes : List ℕ
  pub table : List ℕ

abbrev pub noise : List ℕ → List ℕ → Noise
noise bytes table = record { bytes = bytes; table = table }

unfoldable pub length_either_lem : ℕ → ℕ → ℕ → Verdict
length_either_lem m x y = cond (eqb m x) pass (length_is_lem m y)

-- 02: "One value takes 25 bytes", "51 .. entries .. in three 64-bit words"; "Other schemes lend an empty table". A value takes two words of 16 bits in NewHope,
-- one in Frodo.
abbrev pub bytes_each : Scheme → ℕ
bytes_each c = by_family (family_of c) 25 4 2

abbrev pub table_words : Scheme → ℕ
table_words c = by_family (family_of c) 153 0 0

-- both lengths of the bytes are fixed ones, and no other: of the values of S, E, S' or E', and of those of E''. 02: a table "not strictly ascending" is refused
unfoldable pub noise_tests_lem : Option Scheme → Noise → ℕ → Verdict
noise_tests_lem None x n = Err NoScheme
noise_tests_lem (Some c) x n =
    length_either_lem (length x.bytes) (bytes_each c * (fixed_of c).noise) (bytes_each c * (fixed_of c).mixed)
    then length_is_lem (length x.table) (table_words c)
    then room_for_lem n (length x.bytes / bytes_each c)
    then by_family (family_of c) (table_in_lem (first_not_above_lem x.table) 51) pass pass

unfoldable pub noise_values_lem : Option Scheme → Noise → List ℤ
noise_values_lem None x = []
noise_values_lem (Some Bcns) x = bcns_noise_lem x.table x.bytes
noise_values_lem (Some NewHope) x = new_hope_noise x.bytes
noise_values_lem (Some Challenge) x = frodo_noise_lem d1 7 x.bytes
noise_values_lem (Some Classical) x = frodo_noise_lem d2 11 x.bytes
noise_values_lem (Some Recommended) x = frodo_noise_lem d3 11 x.bytes
noise_values_lem (Some Paranoid) x = frodo_noise_lem d4 15 x.bytes

abbrev pub noise_result : Option Scheme → Noise → ℕ → Seen ℤ
noise_result c x n = shown (noise_tests_lem c x n) (noise_values_lem c x) (pos 0) n

-- ---- what follows

abbrev pub NoisePasses : Type 0
NoisePasses =
    (c : Scheme) (x : Noise) (n : ℕ) → Below 256 x.bytes
    → (from many : ℕ) → secrets_in_lem (fixed_of c).largest (take many (drop from (noise_result (Some c) x n).out.holds)) ≡ pass

abbrev pub NeverEighteen : Type 0
NeverEighteen = (c : Scheme) (x : Noise) (n : ℕ) → number_in (noise_tests_lem (Some c) x n) ≡ 18 → c ≡ Bcns

abbrev pub EighteenSays : Type 0
EighteenSays =
    (x : Noise) (n : ℕ) → number_in (noise_tests_lem (Some Bcns) x n) ≡ 18
    → (place_in (noise_tests_lem (Some Bcns) x n) < 51) × Place x.table (place_in (noise_tests_lem (Some Bcns) x n))
