-- The table: its entries, what is drawn by it, and the search for an entry that is not above its forerunner.
--   entries-long, entry_at   how many entries there are, and which
--   byte_le, count-entry     a test as a number, added to the count at each turn
--   noise-long               25 bytes a value
--   largest-51               no value lies beyond 51, where there are 51 entries
--   falls-behind             the test of an entry that has a forerunner
--   Searched ..              the search: before, at each turn, where it finds one and where it ends
--   ascends, each-place      what the place says
use Rattle.lists.proofs.Kit.{refl, ◌∙◌, sym, ap, List, Bool, true, false, cond, ℕ, zero, suc, arith, dec_lt, lt-leb}
use Rattle.std.proofs.Common.{◌≡◌, ◌+◌, ◌*◌, ◌-◌, ◌/◌, ◌%◌, ◌<◌, ◌≤◌}
use Rattle.lists.proofs.Kit.{leb-true, leb-false, leb, eqb, length, get_or, List·getD-eq-default, bool_byte}
use Rattle.lists.specs.{Entries.tab, Ranges.Within, First.first_where}
use Rattle.lists.proofs.First.{Passed, passed_none, passed-more, found, missing, none_before, none_passes, none_found, first_passes}
use Rattle.lists.proofs.Entries.{tab-length, tab-at, within-tab}
use Rattle.noise.specs.Noise.{at_most}
use Rattle.noise.proofs.Noise.{at-most-le, sign-size, Counted, counted-more}
use Rattle.bcns_noise.specs.Noise.{entry_of, entries, big_endian, bcns_value_lem, bcns_noise_lem, falls, first_not_above_lem}
use Rattle.bcns_noise.specs.Shown.{Largest51, Ascending, Ascends, Place, EachPlace}

pub entries-long : (table : List ℕ) → length (entries table) ≡ length table / 3
unfolding entries
entries-long table = tab-length (length table / 3) (entry_of table)

pub entry_at : (table : List ℕ) (k : ℕ) → k < length table / 3 → get_or (entries table) k 0 ≡ entry_of table k
unfolding entries
entry_at table k h = tab-at (length table / 3) (entry_of table) k 0 h

-- ---- what is drawn

pub byte_le : (b : Bool) → bool_byte b ≤ 1
byte_le true = omega arith
byte_le false = omega arith

one_more : (size : ℕ) (b : Bool) → size + bool_byte b ≡ cond b (size + 1) size
one_more size true = refl
one_more size false = omega arith

pub count-entry :
    (table : List ℕ) {v k size : ℕ} (r : Bool) → Counted (entries table) v k size → k < length table / 3 → r ≡ leb (entry_of table k) v
    → Counted (entries table) v (k + 1) (size + bool_byte r)
count-entry table {v} {k} {size} r c h e =
    counted-more c _ (omega (arith, entries-long table))
    (one_more size r ∙ ap (λ (b : Bool). cond b (size + 1) size) (e ∙ ap (λ (n : ℕ). leb n v) (sym (entry_at table k h))))

pub noise-long : (table bs : List ℕ) → length (bcns_noise_lem table bs) ≡ length bs / 25
unfolding bcns_noise_lem
noise-long table bs = tab-length (length bs / 25) (bcns_value_lem table bs)

largest : (table bs : List ℕ) → Within (length table / 3) (bcns_noise_lem table bs)
unfolding bcns_noise_lem bcns_value_lem
largest table bs =
    within-tab (length table / 3) (length bs / 25) _
    (λ k l.
    let v = big_endian bs (25 * k) 24 in
    let n = at_most (entries table) v in
    omega (arith, sign-size (eqb (get_or bs (25 * k + 24) 0 % 2) 1) n, at-most-le (entries table) v, entries-long table))

pub largest-51 : Largest51
largest-51 table bs e = let n : length table / 3 ≡ 51 = omega arith in rw (← n) (largest table bs)

-- ---- the search

pub falls-behind : (table : List ℕ) (k : ℕ) {r : Bool} → (k ≡ 0 → ⊥) → r ≡ leb (entry_of table k) (entry_of table (k - 1)) → r ≡ falls table k
unfolding falls
falls-behind table zero o e = absurd (o refl)
falls-behind table (suc k) o e = let j : suc k - 1 ≡ k = omega arith in e ∙ ap (λ (i : ℕ). leb (entry_of table (suc k)) (entry_of table i)) j

module _ (table : List ℕ) where
  abbrev number : ℕ
  number = length table / 3

  abbrev places : List ℕ
  places = tab number (λ k. k)

  places-long : length places ≡ number
  places-long = tab-length number (λ k. k)

  place_at : (k : ℕ) → k < number → falls table (get_or places k 0) ≡ falls table k
  place_at k h = ap (falls table) (tab-at number (λ j. j) k 0 h)

  pub record Searched (k : ℕ) : Type 0 where
    pub seen : k ≤ number
    pub passed : Passed (falls table) places 0 k

  pub search-start : Searched 0
  search-start = record { seen = omega arith; passed = passed_none (falls table) places 0 }

  module _ (k : ℕ) (s : Searched k) where
    pub search-next : k < number → falls table k ≡ false → Searched (k + 1)
    search-next h e =
        record {
          seen = omega arith;
          passed = passed-more (falls table) places 0 k s.passed (omega (arith, places-long)) (place_at k h ∙ e);
        }

    pub search-found : k < number → falls table k ≡ true → k ≡ first_not_above_lem table
    unfolding first_not_above_lem
    search-found h e = found (falls table) places 0 k s.passed (omega (arith, places-long)) (place_at k h ∙ e)

    pub search-end : number ≤ k → k ≡ first_not_above_lem table
    unfolding first_not_above_lem
    search-end h = missing (falls table) places 0 k s.passed (omega (arith, places-long))

-- ---- what the place says

module _ (table : List ℕ) where
  first-stays : falls table 0 ≡ false
  unfolding falls
  first-stays = refl

  step-above : (k : ℕ) → falls table (suc k) ≡ false → entry_of table k < entry_of table (suc k)
  unfolding falls
  step-above k e = leb-false (entry_of table (suc k)) (entry_of table k) e

  none-falls : Ascending table (number table) → (k : ℕ) → k < number table → falls table k ≡ false
  unfolding falls
  none-falls a zero h = refl
  none-falls a (suc k) h = lt-leb (entry_of table (suc k)) (entry_of table k) (a.above k h)

  none-listed : Ascending table (number table) → (k : ℕ) → falls table (get_or (places table) k 0) ≡ false
  none-listed a k = go (dec_lt k (number table))
    where
      go : Dec (k < number table) → falls table (get_or (places table) k 0) ≡ false
      go (yes h) = place_at table k h ∙ none-falls a k h
      go (no h) = ap (falls table) (List·getD-eq-default (places table) 0 {n = k} (omega (arith, places-long table))) ∙ first-stays

  place : (p : ℕ) → falls table p ≡ true → ((k : ℕ) → k < p → falls table k ≡ false) → Place table p
  unfolding falls
  place zero e f = let x : ◌≡◌ {A = ℕ} 0 1 = cc in absurd (omega arith)
  place (suc k) e f =
      let o : suc k - 1 ≡ k = omega arith in
      record {
        behind = omega arith;
        not-above = rw o (leb-true (entry_of table (suc k)) (entry_of table k) e);
        front = record { above = λ j h. step-above j (f (suc j) h) };
      }

pub ascends : Ascends
unfolding first_not_above_lem
ascends table = (
  λ e. record {
    above = λ k h.
        step-above table k
        (sym (place_at table (suc k) h) ∙ none_passes (falls table) 0 (places table) (omega (arith, places-long table)) (suc k) (omega (arith, places-long table)));
  },
  λ a. none_found (falls table) 0 (places table) (none-listed table a) ∙ places-long table,
)

pub each-place : EachPlace
unfolding first_not_above_lem
each-place table h =
    let p = first_where (falls table) (places table) in
    place table p
    (sym (place_at table p h) ∙ first_passes (falls table) 0 (places table) (omega (arith, places-long table)))
    (λ k l. sym (place_at table k (omega arith)) ∙ none_before (falls table) 0 (places table) k l)
