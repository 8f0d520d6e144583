-- A search for a number that is q or more, which goes through a list part by part.
--   Clear q xs a           none of the first a numbers is
--   clear-start, clear-all    before the first part, and after the last
--   all-clear, below_wider    where all are below q, without parts; and they are below what is no less than q
--   clear-part, part-below    after a part that has none, whose numbers are below q
--   part-place, part-full     the place in the list of the one that a part has; there is none where all are below q
use Rattle.lists.proofs.Kit.{refl, ◌∙◌, sym, ap, subst, false, List, ℕ, dec_lt, zero-mul, arith, leb, length, get_or, take, drop}
use Rattle.std.proofs.Common.{◌≡◌, ◌+◌, ◌*◌, ◌-◌, ◌≤◌, ◌<◌}
use Rattle.lists.proofs.Kit.{lt-leb}
use Rattle.lists.specs.{Ranges.Below, First.first_over_lem}
use Rattle.lists.proofs.First.{Passed, passed_none, found, missing, none_before, first_passes, none_found, all-below}
use Rattle.lists.proofs.Parts.{slice-long, slice_at, slice-below}

abbrev pub Clear : ℕ → List ℕ → ℕ → Type 0
Clear q xs a = Passed (λ x. leb q x) xs 0 a

pub below_wider : {q b : ℕ} {xs : List ℕ} → q ≤ b → Below q xs → Below b xs
below_wider g h = record { below = λ k. omega (arith, h.below k) }

module _ (q : ℕ) (xs : List ℕ) where
  -- of parts of n numbers
  pub clear-start : (n : ℕ) → Clear q xs (0 * n)
  clear-start n = subst (Clear q xs) (sym (zero-mul n)) (passed_none _ _ _)

  pub clear-all : (a : ℕ) → Clear q xs a → length xs ≡ a → length xs ≡ first_over_lem q xs
  unfolding first_over_lem
  clear-all a h l = l ∙ missing _ _ _ a h (omega arith)

  pub all-clear : ((k : ℕ) → k < length xs → get_or xs k 0 < q) → length xs ≡ first_over_lem q xs
  all-clear h = clear-all (length xs) (record { tried = record { seen = omega arith; none = λ k l. lt-leb q _ (h k l) } }) refl

  module _ (a m : ℕ) (h : Clear q xs a) (fits : a + m ≤ length xs) {at : ℕ} (e : at ≡ first_over_lem q (take (a + m - a) (drop a xs))) where
    up_to : (b : ℕ) → b ≤ m → b ≤ at → Clear q xs (a + b)
    unfolding first_over_lem
    up_to b o l = record { tried = record { seen = omega arith; none = λ k p. go k p (dec_lt k a) } }
      where
        go : (k : ℕ) → k < a + b → Dec (k < a) → leb q (get_or xs k 0) ≡ false
        go k p (yes d) = h.tried.none k d
        go k p (no d) =
            let i : a + (k - a) ≡ k = omega arith in
            ap (λ (x : ℕ). leb q (get_or xs x 0)) (sym i)
            ∙ ap (leb q) (sym (slice_at a m xs 0 (k - a) (omega arith)))
            ∙ none_before (λ x. leb q x) 0 (take (a + m - a) (drop a xs)) (k - a) (omega (arith, e))

    pub clear-part : m ≤ at → (b : ℕ) → a + m ≡ b → Clear q xs b
    clear-part l b d = subst (Clear q xs) d (up_to m (omega arith) l)

    pub part-below : 0 < q → m ≤ at → Below q (take (a + m - a) (drop a xs))
    part-below o l = all-below q _ o (rw (slice-long a m xs fits) (omega (arith, e)))

    pub part-place : at < m → a + at ≡ first_over_lem q xs
    unfolding first_over_lem
    part-place l =
        found (λ x. leb q x) xs 0 (a + at) (up_to at (omega arith) (omega arith)) (omega arith)
        (ap (leb q) (sym (slice_at a m xs 0 at l))
        ∙ ap (λ (k : ℕ). leb q (get_or (take (a + m - a) (drop a xs)) k 0)) e
        ∙ first_passes (λ x. leb q x) 0 (take (a + m - a) (drop a xs)) (omega (arith, e, slice-long a m xs fits)))

    pub part-full : Below q xs → at ≡ m
    unfolding first_over_lem
    part-full b = e ∙ none_found (λ x. leb q x) 0 _ (λ k. lt-leb q _ ((slice-below a m b).below k)) ∙ slice-long a m xs fits
