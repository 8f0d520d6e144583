-- Expand.
--   sizes-failed         what is seen where a test of lengths fails
--   sizes-passed, room-enough   its verdict and the room where they pass
--   ran_out, full        its verdict where too few are taken, and where all are
--   enough-passed        how many are taken where it passes
--   refused-zeros        what a refusal leaves
--   numbers-few          no more are taken than the answer has
--   whole_part           numbers that fill their part
--   unruled              what `ok_or` says of a number that names no rule
--   expand-unknown, expand-named   what is seen where no rule is named, and under another name and room
use Rattle.std.proofs.Common.{Err, Some, None, Option, ◌≡◌, ◌++◌, ◌≤◌, ◌<◌}
use Rattle.std.specs.Option.{ok_or}
use Rattle.lists.proofs.Kit.{refl, ◌∙◌, ap, Bool, true, false, List, append-nil, ℕ, arith, leb, length, take, drop, replicate}
use Rattle.lists.proofs.Kit.{length-take, drop_of_length-le, leb-true, le-leb, lt-leb}
use Rattle.lists.proofs.Same.{zeros-long}
use Rattle.noise.specs.{Expand.rule, declared.RuleName.RuleName}
use Rattle.noise.proofs.Stream.{expanded-length}
use Rattle.refusals.specs.declared.Refusal.TheVariants.{RanOut, NoRule}
use Rattle.refusals.specs.Refusals.{pass}
use Rattle.refusals.specs.Seen.{refused, Answer, Seen, told, seen}
use Rattle.refusals.specs.declared.Refusal.{Refusal}
use Rattle.refusals.proofs.{Laws.differ, Laws.both, Laws.room-passed, Laws.failed, Laws.went_on, Seen.shown-failed, Seen.seen-refused}
use Rattle.sampling.specs.{Expand.expand_numbers, Expand.enough, Expand.expand_tests, Expand.expand_result, Steps.expand_sizes_lem}

module _ (k : RuleName) (stream : List ℕ) (room : ℕ) where
  pub sizes-failed : {r : Refusal} {out : List ℕ} → Err r ≡ expand_sizes_lem stream room → out ≡ replicate room 0
      → seen (refused r 0) out ≡ expand_result (Some k) stream room
  unfolding expand_tests expand_sizes_lem
  sizes-failed e o = shown-failed _ _ _ (failed _ e refl) o

  module _ (e : expand_sizes_lem stream room ≡ pass) where
    pub sizes-passed : expand_tests (Some k) stream room ≡ enough (length (expand_numbers (Some k) stream))
    unfolding expand_tests expand_sizes_lem
    sizes-passed = went_on _ refl e

    pub room-enough : 1024 ≤ room
    unfolding expand_sizes_lem
    room-enough = room-passed room 1024 (both _ _ e).1

    pub ran_out : {n : ℕ} → n ≡ length (expand_numbers (Some k) stream) → n < 1024 → expand_tests (Some k) stream room ≡ Err (RanOut n)
    unfolding enough
    ran_out {n} t l = rw (sizes-passed, ← t, lt-leb 1024 n l)

    pub full : {n : ℕ} → n ≡ length (expand_numbers (Some k) stream) → 1024 ≤ n → expand_tests (Some k) stream room ≡ pass
    unfolding enough
    full {n} t l = rw (sizes-passed, ← t, le-leb 1024 n l)

pub enough-passed : (m : ℕ) (t : Bool) → leb 1024 m ≡ t → enough m ≡ pass → 1024 ≤ m
unfolding enough
enough-passed m true e f = leb-true 1024 m e
enough-passed m false e f = differ (rw e at f)

pub refused-zeros : (k : Option RuleName) (stream : List ℕ) (room : ℕ) {a : Answer} {r : Refusal} {out : List ℕ} → a ≡ Err r
    → seen (told a) out ≡ expand_result k stream room → out ≡ replicate room 0
refused-zeros k stream room {r = r} e p = seen-refused (expand_numbers k stream) 0 room (expand_tests k stream room) r 0 (rw e at p)

pub numbers-few : (k : RuleName) (stream : List ℕ) → length (expand_numbers (Some k) stream) ≤ 1024
unfolding expand_numbers
numbers-few k stream = expanded-length (rule k) stream

pub whole_part : (xs old part : List ℕ) (n : ℕ) → part ≡ xs ++ drop n (take 1024 old) → 1024 ≤ n → part ≡ xs
whole_part xs old part n e l =
    e ∙ ap (λ (t : List ℕ). xs ++ t) (drop_of_length-le (take 1024 old) {i = n} (omega (arith, length-take 1024 old))) ∙ append-nil xs

-- ---- the promise

pub unruled : (l : Option RuleName) {r : Refusal} → Err r ≡ ok_or l NoRule → (l ≡ None) × (r ≡ NoRule)
unruled None e = (refl, cc)
unruled (Some k) e = cc

module _ {k l : Option RuleName} (e : l ≡ k) (stream : List ℕ) (n : ℕ) where
  pub expand-unknown : {out : List ℕ} → l ≡ None → out ≡ replicate n 0 → seen (refused NoRule 0) out ≡ expand_result k stream n
  unfolding expand_tests
  expand-unknown u o = rw (← e, u) (shown-failed _ _ _ refl o)

  pub expand-named : {r : RuleName} {out : List ℕ} {s : Seen ℕ} → l ≡ Some r → out ≡ replicate n 0 → s ≡ expand_result (Some r) stream (length out)
      → s ≡ expand_result k stream n
  expand-named u o p = rw (← e, u, ← zeros-long n 0 o) p
