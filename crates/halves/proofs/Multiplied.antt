-- The product by halves as a call.
--   size-fails, size-passes, size-passed   the test of a length, and what it says
--   tests-stop         the other tests do not count where it fails
--   plain-law          what the steps leave in the output is the product of 01's rule
--   fitting            lengths and rooms where the tests pass
--   product-refused, product-done   what is seen of the output, where a test fails and where the front of the zeros is written over
--   product-cleared    what is seen of the call, once the scratch is zeroed
--   product-seen-all   `product_seen` forgets nothing
use Rattle.std.proofs.Common.{Err}
use Rattle.lists.proofs.Kit.{◌≡◌, refl, ◌∙◌, sym, ap, ap₂, List, ◌++◌, Bool, true, false, cond, ℕ, ◌+◌, ◌*◌, ◌-◌, ◌%◌, ◌<◌, ◌≤◌, mod-lt, arith, length, get_or}
use Rattle.lists.proofs.Kit.{drop, replicate}
use Rattle.numbers.specs.Residue.{residue}
use Rattle.numbers.proofs.Congruence.{eq-≅, ◌⨾◌, sub-≅, mod-≅, residue-is}
use Rattle.lists.specs.{Entries.tab, Entries.nums, Ranges.Stored}
use Rattle.lists.proofs.Entries.{tab-length, tab-ext}
use Rattle.polynomial.specs.Product.{product}
use Rattle.refusals.specs.Refusals.{pass}
use Rattle.refusals.specs.Seen.{done, refused, Seen, shown, seen}
use Rattle.refusals.specs.{declared.Refusal.Refusal, declared.Refusal.TheVariants.BadLength, Refusals.Verdict}
use Rattle.refusals.proofs.{Laws.differ, Laws.both, Laws.failed, Laws.length-passed, Laws.room-passed, Seen.shown-passed, Seen.shown-failed}
use Rattle.halves.specs.Halves.{q, size_up_to, size_in_lem, Factors, factors, product_tests_lem, plain, ProductSeen, with_scratch, product_result, ProductSeenAll}
use Rattle.halves.specs.Steps.{full, cut, from, times, Product, Fit}
use Rattle.halves.proofs.{Full.cut-ext, Full.full-ext, Folded.product-folded, Part.size-upto, Step.rest-≅, Step.less-≅}

-- ---- lengths

pub size-passes : (n : ℕ) {b : Bool} → b ≡ size_up_to 5 n → b ≡ true → pass ≡ size_in_lem n
unfolding size_in_lem
size-passes n e f = rw (← e, f)

pub size-fails : (n : ℕ) {b : Bool} → b ≡ size_up_to 5 n → b ≡ false → Err BadLength ≡ size_in_lem n
unfolding size_in_lem
size-fails n e f = rw (← e, f)

pub size-passed : (n : ℕ) → size_in_lem n ≡ pass → size_up_to 5 n ≡ true
unfolding size_in_lem
size-passed n e = go (size_up_to 5 n) e
  where
    go : (b : Bool) → cond b pass (Err BadLength) ≡ pass → b ≡ true
    go true f = refl
    go false f = differ f

-- a length that is refused ends the tests
pub tests-stop : (x : Factors) (n m : ℕ) {v : Verdict} {r : Refusal} → v ≡ size_in_lem (length x.a) → v ≡ Err r → v ≡ product_tests_lem x n m
unfolding product_tests_lem
tests-stop x n m e f =
    f ∙ sym (failed _ (sym (failed _ (sym (failed _ (sym (failed _ (sym (failed _ e f)) refl)) refl)) refl)) refl)

-- ---- the product

module _ (n : ℕ) (a b w₁ w₂ w₃ : List ℕ) (w₀ : List ℕ) (la : length a ≡ n) (lb : length b ≡ n)
    (pa : Stored 0 w₀ 0 (length a) (λ k. get_or a k 0) w₁)
    (pb : Stored 0 w₁ n (length b) (λ k. get_or b k 0) w₂)
    (p : Product w₂ n w₃) where
  abbrev A : ℕ → ℕ
  A = cut n (λ j. get_or a j 0)

  abbrev B : ℕ → ℕ
  B = cut n (λ j. get_or b j 0)

  -- the factors, as they were laid
  laid : (k : ℕ) → k < n + n → get_or w₃ k 0 ≡ full A B k % q
  unfolding times
  laid k l =
      p.at k l
      ∙ ap (λ (x : ℕ). x % q)
      (full-ext _ _ _ _ k
      (λ j r. cut-ext n (from w₂ 0) (λ j. get_or a j 0) (λ j s. pb.below (0 + j) (omega arith) ∙ pa.inside j (omega arith)) j)
      (λ j r. cut-ext n (from w₂ n) (λ j. get_or b j 0) (λ j s. pb.inside j (omega arith)) j))

  entry : (k : ℕ) → k < n → (get_or w₃ k 0 + (q - get_or w₃ (n + k) 0)) % q ≡ residue q (product n (nums a) (nums b) k)
  unfolding nums
  entry k l =
      let x = get_or w₃ k 0 in
      let y = get_or w₃ (n + k) 0 in
      let ey = laid (n + k) (omega arith) in
      let rest : full A B (n + k) % q < q = mod-lt (full A B (n + k)) (omega arith) in
      let small : y ≤ q = omega arith in
      residue-is
      (mod-lt (x + (q - y)) (omega arith))
      (mod-≅ q (x + (q - y))
      ⨾ less-≅ q x y small
      ⨾ sub-≅ (rest-≅ (laid k (omega arith))) (rest-≅ ey)
      ⨾ eq-≅ (sym (product-folded n (λ j. get_or a j 0) (λ j. get_or b j 0) k l)))

  pub plain-law : {out : List ℕ} → out ≡ tab n (λ k. (get_or w₃ k 0 + (q - get_or w₃ (n + k) 0)) % q) → out ≡ plain (factors a b)
  unfolding plain
  plain-law e = rw la (e ∙ tab-ext n _ _ entry)

-- ---- the call

plain-long : (x : Factors) → length (plain x) ≡ length x.a
unfolding plain
plain-long x = tab-length (length x.a) _

module _ (x : Factors) (n m : ℕ) {v : Verdict} (e : v ≡ product_tests_lem x n m) where
  pub fitting : v ≡ pass → (length x.a ≤ n) × Fit (length x.a) x.a x.b m
  unfolding product_tests_lem
  fitting f =
      let all = (both _ _ (sym e ∙ f)).0 in
      let rooms = (both _ _ all).0 in
      let first = both _ _ rooms in
      let long = both _ _ first.0 in
      let size = both _ _ long.0 in (
        room-passed n (length x.a) long.1,
        record {
          size = size-upto 5 (length x.a) (size-passed (length x.a) size.0);
          a-long = refl;
          b-long = length-passed (length x.b) (length x.a) size.1;
          works = room-passed m (6 * length x.a) first.1;
        },
      )

  pub product-refused : {r : Refusal} {out : List ℕ} → v ≡ Err r → out ≡ replicate n 0 → seen (refused r 0) out ≡ shown (product_tests_lem x n m) (plain x) 0 n
  product-refused f z = shown-failed _ _ _ (sym e ∙ f) z

  pub product-done :
      (old : List ℕ) {part : List ℕ} → v ≡ pass → old ≡ replicate n 0 → part ≡ plain x →
      seen (done (length x.a)) (part ++ drop (length x.a) old) ≡ shown (product_tests_lem x n m) (plain x) 0 n
  product-done old f z w = shown-passed _ _ _ (sym e ∙ f) old (plain-long x) z (ap (λ (t : List ℕ). t ++ drop (length x.a) old) w)

-- the output has n numbers still once it is zeroed, and the scratch m once the product is made
pub product-cleared :
    (x : Factors) {k n l m : ℕ} {s : Seen ℕ} {scratch : List ℕ} → k ≡ n →
    s ≡ shown (product_tests_lem x k m) (plain x) 0 k → scratch ≡ replicate l 0 → l ≡ m →
    with_scratch s scratch ≡ product_result x n m
product-cleared x {m = m} e p z f =
    ap₂ with_scratch
    (p ∙ ap (λ (i : ℕ). shown (product_tests_lem x i m) (plain x) 0 i) e)
    (z ∙ ap (λ (i : ℕ). replicate {A = ℕ} i 0) f)

pub product-seen-all : ProductSeenAll
unfolding with_scratch seen
product-seen-all t t' out out' scratch scratch' e = (
  ap (λ (s : ProductSeen). s.number) e,
  ap (λ (s : ProductSeen). s.place) e,
  ap (λ (s : ProductSeen). s.out.count) e,
  ap (λ (s : ProductSeen). s.out.holds) e,
  ap (λ (s : ProductSeen). s.scratch) e,
)
