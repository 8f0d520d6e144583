-- BCNS's noise from bytes and a lent table: 02, request m.
--   "The table of 51 cumulative entries is lent, .. each 192 bits in three 64-bit words, highest first"
--   wide a b c            the number of three words, highest first
--   entry_of table k       entry k of a table
--   entries table         all of them
--   "One value takes 25 bytes: 24 bytes big-endian make v, and the low bit of the last is the sign, 1 for minus."
--   big_endian bs at n     the number that n bytes make, from byte `at` on
--   "The size is how many entries are at most v"
--   bcns_value_lem table bs k  value k: `at_most`, which counts Frodo's thresholds, counts the entries
--   bcns_noise_lem table bs    all values
--   "18, a table not strictly ascending, place of the first entry not above its forerunner"
--   falls table k         entry k has a forerunner and is not above it
--   first_not_above_lem table   the first such k, or the number of entries where there is none
use Rattle.std.specs.Prelude.{Bool, false, List, ℕ, zero, suc, ◌+◌, ◌*◌, ◌/◌, ◌^◌, leb, ℤ, length, get_or}
use Rattle.lists.specs.{Entries.tab, First.first_where}
use Rattle.noise.specs.Noise.{at_most, with_sign}

unfoldable pub wide : ℕ → ℕ → ℕ → ℕ
wide a b c = (a * 2 ^ 64 + b) * 2 ^ 64 + c

unfoldable pub entry_of : List ℕ → ℕ → ℕ
entry_of table k = wide (get_or table (3 * k) 0) (get_or table (3 * k + 1) 0) (get_or table (3 * k + 2) 0)

unfoldable pub entries : List ℕ → List ℕ
entries table = tab (length table / 3) (entry_of table)

unfoldable pub big_endian : List ℕ → ℕ → ℕ → ℕ
big_endian bs at zero = 0
big_endian bs at (suc n) = big_endian bs at n * 256 + get_or bs (at + n) 0

unfoldable pub bcns_value_lem : List ℕ → List ℕ → ℕ → ℤ
bcns_value_lem table bs k = with_sign (get_or bs (25 * k + 24) 0) (at_most (entries table) (big_endian bs (25 * k) 24))

unfoldable pub bcns_noise_lem : List ℕ → List ℕ → List ℤ
bcns_noise_lem table bs = tab (length bs / 25) (bcns_value_lem table bs)

unfoldable pub falls : List ℕ → ℕ → Bool
falls table zero = false
falls table (suc k) = leb (entry_of table (suc k)) (entry_of table k)

unfoldable pub first_not_above_lem : List ℕ → ℕ
first_not_above_lem table = first_where (falls table) (tab (length table / 3) (λ k. k))
