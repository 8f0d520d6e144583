-- The steps of the code: the tests of lengths, which come first.
--   noise_sizes_lem c each words x n   Noise's, where a value takes so many bytes and the table has so many words, with room for n values
--   expand_sizes_lem stream n          Expand's, with room for n numbers
--   grow_sizes_lem seed n              Grow's
use Rattle.std.specs.Prelude.{List, ℕ, ◌*◌, ◌/◌, length}
use Rattle.schemes.specs.{Schemes.fixed_of, Schemes.new_hope, declared.Scheme.Scheme}
use Rattle.refusals.specs.{Refusals.◌then◌, Refusals.length_is_lem, Refusals.length_up_to_lem, Refusals.room_for_lem, Refusals.Verdict}
use Rattle.sampling.specs.Noise.{Noise, length_either_lem}

unfoldable pub noise_sizes_lem : Scheme → ℕ → ℕ → Noise → ℕ → Verdict
noise_sizes_lem c each words x n =
    length_either_lem (length x.bytes) (each * (fixed_of c).noise) (each * (fixed_of c).mixed)
    then length_is_lem (length x.table) words
    then room_for_lem n (length x.bytes / each)

unfoldable pub expand_sizes_lem : List ℕ → ℕ → Verdict
expand_sizes_lem stream n = length_up_to_lem (length stream) 65536 then room_for_lem n new_hope.public

unfoldable pub grow_sizes_lem : List ℕ → ℕ → Verdict
grow_sizes_lem seed n = length_is_lem (length seed) new_hope.seed then room_for_lem n new_hope.public
