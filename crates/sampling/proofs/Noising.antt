-- Noise.
--   tests_by             its tests, by the family of the scheme
--   count                how many values there are
--   Fits, sizes-passed, tests-passed   what passed tests say of the lengths
--   takes, words, filled   the bytes, the table and the values of a scheme that is known by its name
--   noise-unknown, noise-named   what is seen where no scheme is named, and under another name and room
use Rattle.std.proofs.Common.{Some, None, Option, ◌≡◌, ◌*◌, ◌/◌, ◌≤◌}
use Rattle.lists.proofs.Kit.{refl, ◌∙◌, sym, ap, List, Bool, true, false, ℕ, arith, eqb, ℤ, pos, length, replicate, eqb-true}
use Rattle.schemes.specs.declared.Scheme.TheVariants.{Bcns, NewHope, Challenge, Classical, Recommended, Paranoid}
use Rattle.schemes.specs.{Schemes.fixed_of, Schemes.family_of, Schemes.by_family, declared.Family.Family, declared.Scheme.Scheme}
use Rattle.noise.specs.Noise.{d1, d2, d3, d4}
use Rattle.noise.proofs.Noise.{newhope-length, frodo-length}
use Rattle.bcns_noise.specs.Noise.{first_not_above_lem}
use Rattle.bcns_noise.proofs.Table.{noise-long}
use Rattle.refusals.specs.declared.Refusal.TheVariants.{NoScheme}
use Rattle.refusals.specs.{Refusals.◌then◌, Refusals.table_in_lem, Refusals.Verdict, Refusals.pass, Seen.refused, Seen.Seen, Seen.seen}
use Rattle.refusals.proofs.{Laws.both, Laws.last-passes, Laws.length-passed, Laws.room-passed, Seen.shown-failed}
use Rattle.sampling.specs.Noise.{Noise, length_either_lem, bytes_each, table_words, noise_tests_lem, noise_values_lem, noise_result}
use Rattle.sampling.specs.Steps.{noise_sizes_lem}

-- ---- by the family

-- as the code makes them
abbrev tests_in : Family → Scheme → Noise → ℕ → Verdict
tests_in F c x n = by_family F (noise_sizes_lem c 25 153 x n then table_in_lem (first_not_above_lem x.table) 51) (noise_sizes_lem c 4 0 x n) (noise_sizes_lem c 2 0 x n)

abbrev each_in : Family → ℕ
each_in F = by_family F 25 4 2

abbrev words_in : Family → ℕ
words_in F = by_family F 153 0 0

in_order : (F : Family) (c : Scheme) (x : Noise) (n : ℕ)
    → tests_in F c x n ≡ noise_sizes_lem c (each_in F) (words_in F) x n then by_family F (table_in_lem (first_not_above_lem x.table) 51) pass pass
in_order Family.Bcns c x n = refl
in_order Family.NewHope c x n = sym (last-passes _)
in_order Family.Frodo c x n = sym (last-passes _)

pub tests_by : (c : Scheme) (x : Noise) (n : ℕ) {F : Family} → family_of c ≡ F → tests_in F c x n ≡ noise_tests_lem (Some c) x n
unfolding noise_tests_lem noise_sizes_lem
tests_by c x n e = ap (λ (F : Family). tests_in F c x n) (sym e) ∙ in_order (family_of c) c x n

pub count : (c : Scheme) (x : Noise) → length (noise_values_lem (Some c) x) ≡ length x.bytes / each_in (family_of c)
unfolding noise_values_lem
count Bcns x = noise-long x.table x.bytes
count NewHope x = newhope-length x.bytes
count Challenge x = frodo-length d1 7 x.bytes
count Classical x = frodo-length d2 11 x.bytes
count Recommended x = frodo-length d3 11 x.bytes
count Paranoid x = frodo-length d4 15 x.bytes

-- ---- what passed tests say

either-passed : (P : ℕ → Type 0) (m x y : ℕ) (t : Bool) → eqb m x ≡ t → length_either_lem m x y ≡ pass → P x → P y → P m
unfolding length_either_lem
either-passed P m x y true e h p q = rw (eqb-true m x e) p
either-passed P m x y false e h p q = rw (length-passed m y (rw e at h)) q

module _ (c : Scheme) (x : Noise) (n : ℕ) where
  -- the bytes are those of a whole number of values, for which there is room
  pub record Fits (each words : ℕ) : Type 0 where
    pub whole : length x.bytes ≡ each * (length x.bytes / each)
    pub table : length x.table ≡ words
    pub room : length x.bytes / each ≤ n

  pub sizes-passed : (each words : ℕ) → ((k : ℕ) → each * k ≡ each * (each * k / each)) → noise_sizes_lem c each words x n ≡ pass → Fits each words
  unfolding noise_sizes_lem
  sizes-passed each words w e =
      let t = both _ _ e in
      let u = both _ _ t.0 in
      record {
        whole = either-passed (λ k. k ≡ each * (k / each)) (length x.bytes) (each * (fixed_of c).noise) (each * (fixed_of c).mixed) _ refl u.0 (w _) (w _);
        table = length-passed (length x.table) words u.1;
        room = room-passed n (length x.bytes / each) t.1;
      }

  whole_in : (F : Family) (k : ℕ) → each_in F * k ≡ each_in F * (each_in F * k / each_in F)
  whole_in Family.Bcns k = omega arith
  whole_in Family.NewHope k = omega arith
  whole_in Family.Frodo k = omega arith

  pub tests-passed : noise_tests_lem (Some c) x n ≡ pass → Fits (bytes_each c) (table_words c)
  unfolding noise_tests_lem noise_sizes_lem
  tests-passed e = sizes-passed (bytes_each c) (table_words c) (whole_in (family_of c)) (both _ _ e).0

-- ---- the values

module _ {c t : Scheme} (x : Noise) (e : c ≡ t) where
  pub takes : (n : ℕ) → length x.bytes ≡ each_in (family_of c) * n → length x.bytes ≡ each_in (family_of t) * n
  takes n h = h ∙ ap (λ (s : Scheme). each_in (family_of s) * n) e

  pub words : length x.table ≡ words_in (family_of c) → length x.table ≡ words_in (family_of t)
  words h = h ∙ ap (λ (s : Scheme). words_in (family_of s)) e

  pub filled : {out : List ℤ} → out ≡ noise_values_lem (Some t) x → out ≡ noise_values_lem (Some c) x
  filled o = rw e o

-- ---- the promise

module _ {c : Option Scheme} (x : Noise) where
  pub noise-unknown : (n : ℕ) {out : List ℤ} → c ≡ None → out ≡ replicate n (pos 0) → seen (refused NoScheme 0) out ≡ noise_result c x n
  unfolding noise_tests_lem
  noise-unknown n e o = rw e (shown-failed _ _ _ refl o)

  pub noise-named : {d : Option Scheme} {m n : ℕ} {s : Seen ℤ} → c ≡ d → m ≡ n → s ≡ noise_result d x m → s ≡ noise_result c x n
  noise-named e f p = rw (e, ← f) p
