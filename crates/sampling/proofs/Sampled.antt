-- What follows from the promises of Noise, Expand and Grow, and of whom it is stated in `specs/`.
--   values-within, noise-within     the values of a scheme lie within its largest noise, and so does the whole output of Noise
--   noise-passes                    so no part of it is refused
--   expand-below, expand-passes     the whole output of Expand is below 12289, and no part of it is refused
--   grow-below, grow-passes         so of Grow
--   never-eighteen, eighteen-says   where Noise is refused with 18, and what its place says
--   same-grown                      two boxes grow the same numbers
use Rattle.std.proofs.Common.{Ok, Err, Some, None, Option, ◌≡◌, ◌*◌, ◌/◌, ◌<◌, ◌≤◌}
use Rattle.noise.specs.declared.RuleName.{RuleName}
use Rattle.lists.proofs.Kit.{refl, ◌∙◌, sym, Bool, true, false, List, ℕ, arith, eqb, ltb, pos, nat_abs, length, take, take_at, ltb-true}
use Rattle.schemes.specs.declared.Scheme.TheVariants.{Bcns, NewHope, Challenge, Classical, Recommended, Paranoid}
use Rattle.schemes.specs.{Schemes.fixed_of, Schemes.family_of, Schemes.by_family, Schemes.new_hope, declared.Scheme.Scheme}
use Rattle.lists.specs.Ranges.{Below, Within}
use Rattle.lists.proofs.Parts.{below-take, below-drop, part-within}
use Rattle.noise.specs.{Noise.d1, Noise.d2, Noise.d3, Noise.d4}
use Rattle.noise.proofs.{Noise.newhope-within, Noise.frodo-within, Stream.by_name-below}
use Rattle.bcns_noise.specs.Noise.{first_not_above_lem}
use Rattle.bcns_noise.proofs.Table.{largest-51, each-place}
use Rattle.refusals.specs.Refusals.{number_in, place_in, ◌then◌, length_is_lem, table_in_lem}
use Rattle.refusals.specs.{Seen.written, Seen.shown, Refusals.Verdict, Refusals.pass}
use Rattle.refusals.proofs.Laws.{differ, both, number-zero, within-passes, below-passes}
use Rattle.refusals.proofs.{Number.and, Number.lengths, Number.rooms, Seen.written_all}
use Rattle.sampling.specs.Expand.{expand_numbers, expand_result, ExpandPasses, blocks, grow_numbers, grow_tests, grow_result, SameGrown, GrowPasses}
use Rattle.sampling.specs.Noise.{Noise, length_either_lem, noise_tests_lem, noise_values_lem, noise_result, NoisePasses, NeverEighteen, EighteenSays}
use Rattle.sampling.specs.Steps.{noise_sizes_lem}
use Rattle.sampling.proofs.{Noising.sizes-passed, Noising.tests-passed, Expanding.enough-passed, Expanding.numbers-few}

-- ---- what is written is not refused later

pub values-within : (c : Scheme) (x : Noise) → Below 256 x.bytes → length x.table ≡ by_family (family_of c) 153 0 0
    → Within (fixed_of c).largest (noise_values_lem (Some c) x)
unfolding noise_values_lem
values-within Bcns x b w = largest-51 x.table x.bytes w
values-within NewHope x b w = newhope-within x.bytes b
values-within Challenge x b w = frodo-within d1 7 x.bytes
values-within Classical x b w = frodo-within d2 11 x.bytes
values-within Recommended x b w = frodo-within d3 11 x.bytes
values-within Paranoid x b w = frodo-within d4 15 x.bytes

pub noise-within : (c : Scheme) (x : Noise) (n : ℕ) → Below 256 x.bytes → Within (fixed_of c).largest (noise_result (Some c) x n).out.holds
unfolding shown
noise-within c x n b =
    record {
      within =
          written_all (pos 0) (λ i. nat_abs i ≤ (fixed_of c).largest) _ _ n (omega arith)
          (λ e. (values-within c x b (tests-passed c x n e).table).within);
    }

pub noise-passes : NoisePasses
noise-passes c x n b from many = within-passes (part-within (fixed_of c).largest from many _ (noise-within c x n b))

numbers-below : (k : Option RuleName) (stream : List ℕ) → Below new_hope.q (expand_numbers k stream)
unfolding expand_numbers
numbers-below None stream = record { below = λ i. omega arith }
numbers-below (Some r) stream = by_name-below r stream

pub expand-below : (k : Option RuleName) (stream : List ℕ) (n : ℕ) → Below new_hope.q (expand_result k stream n).out.holds
unfolding shown
expand-below k stream n = record { below = written_all 0 (λ i. i < new_hope.q) _ _ n (omega arith) (λ e. (numbers-below k stream).below) }

pub expand-passes : ExpandPasses
expand-passes k stream n from many = below-passes (below-take (below-drop (expand-below k stream n) from) many)

pub grow-below : (k : Option RuleName) (seed : List ℕ) (n : ℕ) → Below new_hope.q (grow_result k seed n).out.holds
unfolding shown
grow-below k seed n = record { below = written_all 0 (λ i. i < new_hope.q) _ _ n (omega arith) (λ e. (numbers-below k (blocks seed)).below) }

pub grow-passes : GrowPasses
grow-passes k seed n from many = below-passes (below-take (below-drop (grow-below k seed n) from) many)

-- ---- the table

-- tests of lengths alone do not give 18
abbrev Other : ℕ → Type 0
Other k = k ≡ 18 → ⊥

module _ (c : Scheme) (x : Noise) (n : ℕ) where
  lengths-other : (a b : ℕ) → Other (number_in (length_is_lem a b))
  lengths-other = lengths Other (λ e. omega arith) (λ e. omega arith)

  either-other : (m a b : ℕ) (t : Bool) → eqb m a ≡ t → Other (number_in (length_either_lem m a b))
  unfolding length_either_lem
  either-other m a b true e = rw e (λ f. omega arith)
  either-other m a b false e = rw e (lengths-other m b)

  sizes-other : (each words : ℕ) → Other (number_in (noise_sizes_lem c each words x n))
  unfolding noise_sizes_lem
  sizes-other each words =
      and Other _ _
      (and Other _ _ (either-other (length x.bytes) (each * (fixed_of c).noise) (each * (fixed_of c).mixed) _ refl) (λ e. lengths-other _ _))
      (λ e. rooms Other (λ f. omega arith) (λ f. omega arith) _ _)

  tests-other : (each words : ℕ) → Other (number_in (noise_sizes_lem c each words x n then pass))
  tests-other each words = and Other _ _ (sizes-other each words) (λ e f. omega arith)

pub never-eighteen : NeverEighteen
unfolding noise_tests_lem noise_sizes_lem
never-eighteen Bcns x n e = refl
never-eighteen NewHope x n e = absurd (tests-other NewHope x n 4 0 e)
never-eighteen Challenge x n e = absurd (tests-other Challenge x n 2 0 e)
never-eighteen Classical x n e = absurd (tests-other Classical x n 2 0 e)
never-eighteen Recommended x n e = absurd (tests-other Recommended x n 2 0 e)
never-eighteen Paranoid x n e = absurd (tests-other Paranoid x n 2 0 e)

-- where it is 18, the tests before it have passed, and it was the table's
at_table : (v : Verdict) (p m : ℕ) (t : Bool) → ltb p m ≡ t → Other (number_in v) → number_in (v then table_in_lem p m) ≡ 18
    → (v ≡ pass) × (p < m) × (place_in (v then table_in_lem p m) ≡ p)
unfolding ◌then◌ table_in_lem
at_table (Err r) p m t e o f = absurd (o f)
at_table (Ok _) p m true e o f = (refl, ltb-true p m e, rw e)
at_table (Ok _) p m false e o f = let z : ◌≡◌ {A = ℕ} 0 18 = rw e at f in absurd (omega arith)

pub eighteen-says : EighteenSays
unfolding noise_tests_lem noise_sizes_lem
eighteen-says x n e =
    let p = first_not_above_lem x.table in
    let a = at_table (noise_sizes_lem Bcns 25 153 x n) p 51 _ refl (sizes-other Bcns x n 25 153) e in
    let w : length x.table / 3 ≡ 51 = omega (arith, (sizes-passed Bcns x n 25 153 (λ k. omega arith) a.0).table) in
    (rw a.2 a.1, rw a.2 (each-place x.table (omega arith)))

-- ---- two boxes

grown-long : (k : Option RuleName) (seed : List ℕ) (n : ℕ) → grow_tests k seed n ≡ pass → length (grow_numbers k seed) ≡ 1024
unfolding grow_tests
grown-long None seed n e = differ e
grown-long (Some r) seed n e = omega (arith, enough-passed _ _ refl (both _ _ e).1, numbers-few r (blocks seed))

-- the answer stands at the front, whatever the room
grown-front : (k : Option RuleName) (seed : List ℕ) (n : ℕ) → (grow_result k seed n).number ≡ 0 → take 1024 (grow_result k seed n).out.holds ≡ grow_numbers k seed
unfolding shown written
grown-front k seed n z =
    let e = number-zero (grow_tests k seed n) (sym z) in
    rw e (take_at (grow_numbers k seed) _ 1024 (grown-long k seed n e))

pub same-grown : SameGrown
same-grown k seed n n' z z' = grown-front k seed n z ∙ sym (grown-front k seed n' z')
