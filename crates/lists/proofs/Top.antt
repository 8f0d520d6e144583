-- The largest number of a list and where it stands first: what `peak_of_lem` gives, by the entries.
--   peak-is      the largest number, and the first that is no less: it is the first that equals it
--   peak-none    of an empty list 0 and 0; peak-zeros: and of zeros
--   peak-most    no number is larger
--   peak-le      the largest is at most what all numbers are at most
--   peak-at      it stands where it is said to stand
--   peak-below   and nowhere before
--   peak-inside  which is in the list, if it has an entry
use Rattle.lists.proofs.Kit.{refl, sym, ap, ap₂, ◌∙◌, Bool, cond, List, [], ℕ, zero, suc, dec_lt, ℕ_discrete, le_refl, arith}
use Rattle.std.proofs.Common.{◌≡◌, ◌∷◌, ◌-◌, ◌≤◌, ◌<◌}
use Rattle.lists.proofs.Kit.{eqb, leb, length, get_or, replicate, eqb-true, eqb-false, eq-eqb, ne_eqb, le-leb, lt-leb}
use Rattle.lists.specs.First.{first_where, first_over_lem, largest_by, peak_of_lem}
use Rattle.lists.proofs.First.{none_before, none_passes, first_passes}

alike : (m x : ℕ) → x ≤ m → leb m x ≡ eqb x m
alike m x l = go (ℕ_discrete x m)
  where
    go : Dec (x ≡ m) → leb m x ≡ eqb x m
    go (yes e) = le-leb m x (omega arith) ∙ sym (eq-eqb x m e)
    go (no d) = lt-leb m x (omega arith) ∙ sym (ne_eqb x m d)

as-large : (m : ℕ) (xs : List ℕ) → largest_by (λ x. x) xs ≤ m → first_where (λ x. leb m x) xs ≡ first_where (λ x. eqb x m) xs
unfolding first_where largest_by
as-large m [] h = refl
as-large m (x ∷ xs) h = ap₂ (λ (t : Bool) (n : ℕ). cond t 0 (suc n)) (alike m x (omega arith)) (as-large m xs (omega arith))

largest-most : (xs : List ℕ) (k : ℕ) → get_or xs k 0 ≤ largest_by (λ x. x) xs
unfolding largest_by
largest-most [] k = omega arith
largest-most (x ∷ xs) zero = omega arith
largest-most (x ∷ xs) (suc k) = omega (arith, largest-most xs k)

largest-le : (m : ℕ) (xs : List ℕ) → ((k : ℕ) → k < length xs → get_or xs k 0 ≤ m) → largest_by (λ x. x) xs ≤ m
unfolding largest_by
largest-le m [] h = omega arith
largest-le m (x ∷ xs) h = omega (arith, h 0 (omega arith), largest-le m xs (λ k l. h (suc k) (omega arith)))

pub peak-none : peak_of_lem [] ≡ record { most = 0; at = 0 }
unfolding peak_of_lem largest_by first_where
peak-none = refl

module _ (xs : List ℕ) where
  pub peak-is : (m k : ℕ) → m ≡ largest_by (λ x. x) xs → k ≡ first_over_lem m xs → record { most = m; at = k } ≡ peak_of_lem xs
  unfolding peak_of_lem first_over_lem
  peak-is m k e f = rw (f, e) (ap (λ (j : ℕ). record { most = largest_by (λ x. x) xs; at = j }) (as-large (largest_by (λ x. x) xs) xs (le_refl _)))

  pub peak-most : (k : ℕ) → k < length xs → get_or xs k 0 ≤ (peak_of_lem xs).most
  unfolding peak_of_lem
  peak-most k l = largest-most xs k

  pub peak-le : (m : ℕ) → ((k : ℕ) → k < length xs → get_or xs k 0 ≤ m) → (peak_of_lem xs).most ≤ m
  unfolding peak_of_lem
  peak-le m h = largest-le m xs h

  pub peak-below : (k : ℕ) → k < (peak_of_lem xs).at → get_or xs k 0 < (peak_of_lem xs).most
  unfolding peak_of_lem
  peak-below k l =
      let m = largest_by (λ x. x) xs in
      omega (arith, largest-most xs k, eqb-false (get_or xs k 0) m (none_before (λ x. eqb x m) 0 xs k l))

  -- no entry equals the largest number if the search for it ran past the end, so that number is 0
  missed : let m = largest_by (λ x. x) xs in length xs ≤ first_where (λ x. eqb x m) xs → (k : ℕ) → k < length xs → get_or xs k 0 ≤ m - 1
  missed l k i =
      let m = largest_by (λ x. x) xs in
      omega (arith, largest-most xs k, eqb-false (get_or xs k 0) m (none_passes (λ x. eqb x m) 0 xs l k i))

  pub peak-at : get_or xs (peak_of_lem xs).at 0 ≡ (peak_of_lem xs).most
  unfolding peak_of_lem
  peak-at = go (dec_lt (first_where (λ x. eqb x (largest_by (λ x. x) xs)) xs) (length xs))
    where
      m : ℕ
      m = largest_by (λ x. x) xs

      at : ℕ
      at = first_where (λ x. eqb x m) xs

      go : Dec (at < length xs) → get_or xs at 0 ≡ m
      go (yes l) = eqb-true _ _ (first_passes (λ x. eqb x m) 0 xs l)
      go (no l) = let b : m ≤ m - 1 = largest-le (m - 1) xs (missed (omega arith)) in omega (arith, largest-most xs at)

  pub peak-inside : 0 < length xs → (peak_of_lem xs).at < length xs
  unfolding peak_of_lem
  peak-inside h = go (dec_lt (first_where (λ x. eqb x (largest_by (λ x. x) xs)) xs) (length xs))
    where
      m : ℕ
      m = largest_by (λ x. x) xs

      at : ℕ
      at = first_where (λ x. eqb x m) xs

      go : Dec (at < length xs) → at < length xs
      go (yes l) = l
      go (no l) =
          let b : m ≤ m - 1 = largest-le (m - 1) xs (missed (omega arith)) in
          absurd (omega (arith, largest-most xs 0, eqb-false (get_or xs 0 0) m (none_passes (λ x. eqb x m) 0 xs (omega arith) 0 h)))

zeros-largest : (n : ℕ) → 0 ≡ largest_by (λ x. x) (replicate n 0)
unfolding largest_by
zeros-largest zero = refl
zeros-largest (suc n) = omega (arith, zeros-largest n)

zeros-first : (n : ℕ) → 0 ≡ first_over_lem 0 (replicate n 0)
unfolding first_over_lem first_where
zeros-first zero = refl
zeros-first (suc n) = refl

pub peak-zeros : (n : ℕ) → peak_of_lem (replicate n 0) ≡ record { most = 0; at = 0 }
peak-zeros n = sym (peak-is (replicate n 0) 0 0 (zeros-largest n) (zeros-first n))
