-- What is shown of BCNS's noise and of its table: 02, request m.
--   Largest51             no value lies beyond 51, the largest noise, where there are 51 entries
--   Ascending, Ascends    `first_not_above_lem` is the number of entries exactly where each entry is above its forerunner
--   Place, EachPlace      else it is 1 or more, that entry is not above its forerunner, and those in front of it ascend
use Rattle.std.specs.Prelude.{◌≡◌, List, ◌↔◌, ℕ, suc, ◌-◌, ◌/◌, ◌<◌, ◌≤◌, length}
use Rattle.lists.specs.Ranges.{Within}
use Rattle.bcns_noise.specs.Noise.{entry_of, bcns_noise_lem, first_not_above_lem}

abbrev pub Largest51 : Type 0
Largest51 = (table bs : List ℕ) → length table ≡ 153 → Within 51 (bcns_noise_lem table bs)

pub record Ascending (table : List ℕ) (n : ℕ) : Type 0 where
  pub above : (k : ℕ) → suc k < n → entry_of table k < entry_of table (suc k)

abbrev pub Ascends : Type 0
Ascends = (table : List ℕ) → (first_not_above_lem table ≡ length table / 3) ↔ Ascending table (length table / 3)

pub record Place (table : List ℕ) (p : ℕ) : Type 0 where
  pub behind : 0 < p
  pub not-above : entry_of table p ≤ entry_of table (p - 1)
  pub front : Ascending table p

abbrev pub EachPlace : Type 0
EachPlace = (table : List ℕ) → first_not_above_lem table < length table / 3 → Place table (first_not_above_lem table)
