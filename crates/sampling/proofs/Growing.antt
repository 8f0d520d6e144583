-- Grow.
--   sizes-failed         what is seen where a test of lengths fails
--   first-numbers        where the first bytes give 1,024 numbers, these are those of all 24 blocks
--   bytes-sized          where Grow's tests of lengths pass, so do Expand's of up to 24 blocks
--   went_well, went-badly   what `is_ok` says of an answer
--   grown-all, grown-first   what is seen of it is then what is seen of Expand on all blocks, and on the first bytes where they are not refused
--   grow-unknown, grow-named   what is seen where no rule is named, and under another name and room
use Rattle.std.proofs.Common.{Ok, Err, Some, None, Option, is_ok, ◌≡◌, ◌++◌, ◌+◌, ◌-◌, ◌*◌, ◌%◌, ◌≤◌}
use Rattle.lists.proofs.Kit.{refl, ◌∙◌, sym, ap, ap₂, true, false, List, ℕ, arith, length, take, drop, replicate, take-append-drop}
use Rattle.lists.proofs.Same.{zeros-long}
use Rattle.noise.specs.{Expand.expanded, Expand.rule, declared.RuleName.RuleName}
use Rattle.noise.proofs.Stream.{expanded-counted, unread}
use Rattle.sponge.specs.Sponge.{shake128}
use Rattle.sponge.proofs.Output.{shake-length, longer}
use Rattle.refusals.specs.Refusals.{pass}
use Rattle.refusals.specs.Seen.{refused, Answer, Seen, shown, told, seen}
use Rattle.refusals.specs.declared.Refusal.TheVariants.{NoRule}
use Rattle.refusals.specs.{declared.Refusal.Refusal, Refusals.Verdict}
use Rattle.refusals.proofs.Laws.{both, all_pass, room-passed, up-to-passes, room-passes, failed, went_on}
use Rattle.refusals.proofs.Seen.{shown-failed, seen_done}
use Rattle.sampling.specs.Expand.{expand_numbers, enough, expand_tests, expand_result, blocks, grow_numbers, grow_tests, grow_result}
use Rattle.sampling.specs.Steps.{expand_sizes_lem, grow_sizes_lem}
use Rattle.sampling.proofs.Expanding.{sizes-passed, enough-passed}

-- the words of the first bytes stand in front of the others, and Expand reads no further than it has to
first-numbers : (k : RuleName) (seed : List ℕ) (n : ℕ) → n ≤ 24 * 168 → n % 2 ≡ 0 → 1024 ≤ length (expand_numbers (Some k) (shake128 seed n))
    → grow_numbers (Some k) seed ≡ expand_numbers (Some k) (shake128 seed n)
unfolding expand_numbers
first-numbers k seed n few even many =
    let firsts = shake128 seed n in
    let more = drop n (blocks seed) in
    let all : n + (24 * 168 - n) ≡ 24 * 168 = omega arith in
    let front : take n (blocks seed) ≡ firsts = rw all at (longer seed n (24 * 168 - n)) in
    ap (expanded (rule k)) (sym (take-append-drop n (blocks seed)) ∙ ap (λ (bs : List ℕ). bs ++ more) front)
    ∙ unread (rule k) firsts more (omega (arith, shake-length seed n)) (omega (arith, expanded-counted (rule k) firsts))

pub went_well : (a : Answer) → is_ok a ≡ true → (m : ℕ) × (a ≡ Ok m)
went_well (Ok m) e = (m, refl)
went_well (Err r) e = cc

pub went-badly : (a : Answer) → is_ok a ≡ false → (r : Refusal) × (a ≡ Err r)
went-badly (Ok m) e = cc
went-badly (Err r) e = (r, refl)

module _ (k : RuleName) (seed : List ℕ) (room : ℕ) where
  pub sizes-failed : {r : Refusal} {out : List ℕ} → Err r ≡ grow_sizes_lem seed room → out ≡ replicate room 0
      → seen (refused r 0) out ≡ grow_result (Some k) seed room
  unfolding grow_tests grow_sizes_lem
  sizes-failed e o = shown-failed _ _ _ (failed _ e refl) o

  module _ (e : grow_sizes_lem seed room ≡ pass) where
    pub bytes-sized : (bytes : List ℕ) → length bytes ≤ 24 * 168 → expand_sizes_lem bytes room ≡ pass
    unfolding expand_sizes_lem grow_sizes_lem
    bytes-sized bytes l = all_pass (up-to-passes (omega arith)) (room-passes (room-passed room 1024 (both _ _ e).1))

    module _ (n : ℕ) (few : n ≤ 24 * 168) where
      abbrev firsts : List ℕ
      firsts = shake128 seed n

      tests : expand_tests (Some k) firsts room ≡ enough (length (expand_numbers (Some k) firsts))
      tests = sizes-passed k firsts room (bytes-sized firsts (omega (arith, shake-length seed n)))

      grown-by : {u : Seen ℕ} → grow_numbers (Some k) seed ≡ expand_numbers (Some k) firsts → u ≡ expand_result (Some k) firsts room
          → u ≡ grow_result (Some k) seed room
      unfolding grow_tests grow_sizes_lem
      grown-by s p =
          let t : grow_tests (Some k) seed room ≡ expand_tests (Some k) firsts room =
          went_on _ refl e ∙ ap (λ (xs : List ℕ). enough (length xs)) s ∙ sym tests in
          p ∙ ap₂ (λ (v : Verdict) (xs : List ℕ). shown v xs 0 room) (sym t) (sym s)

      pub grown-all : {u : Seen ℕ} → n ≡ 24 * 168 → u ≡ expand_result (Some k) firsts room → u ≡ grow_result (Some k) seed room
      grown-all f p = grown-by (ap (λ (m : ℕ). expand_numbers (Some k) (shake128 seed m)) (sym f)) p

      pub grown-first : {a : Answer} {m : ℕ} (out : List ℕ) → n % 2 ≡ 0 → a ≡ Ok m → seen (told a) out ≡ expand_result (Some k) firsts room
          → seen (told a) out ≡ grow_result (Some k) seed room
      grown-first {m = m} out f d p =
          let v = seen_done (expand_numbers (Some k) firsts) 0 room (expand_tests (Some k) firsts room) m out (rw d at p) in
          grown-by (first-numbers k seed n few f (enough-passed _ _ refl (sym tests ∙ v))) p

-- ---- the promise

module _ {k l : Option RuleName} (e : l ≡ k) (seed : List ℕ) (n : ℕ) where
  pub grow-unknown : {out : List ℕ} → l ≡ None → out ≡ replicate n 0 → seen (refused NoRule 0) out ≡ grow_result k seed n
  unfolding grow_tests
  grow-unknown u o = rw (← e, u) (shown-failed _ _ _ refl o)

  pub grow-named : {r : RuleName} {out : List ℕ} {s : Seen ℕ} → l ≡ Some r → out ≡ replicate n 0 → s ≡ grow_result (Some r) seed (length out)
      → s ≡ grow_result k seed n
  grow-named u o p = rw (← e, u, ← zeros-long n 0 o) p
