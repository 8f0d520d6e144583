-- The run of entries at the front of a list that fail a test, as digits or the letters of a label do.
--   run-all      a list that fails it from end to end, before an entry that passes
--   run_take     the run itself fails it from end to end
--   run-within   it is no longer than the list
use Rattle.lists.proofs.Kit.{refl, ap, Bool, true, false, cond, List, [], zero, suc, arith, length, take}
use Rattle.std.proofs.Common.{◌≡◌, ◌∷◌, ◌++◌, ◌≤◌}
use Rattle.lists.specs.First.{first_where}

module _ {A : Type 0} (p : A → Bool) where
  pub run-all : (l : List A) (c : A) (ys : List A) → first_where p l ≡ length l → p c ≡ true → first_where p (l ++ c ∷ ys) ≡ length l
  unfolding first_where
  run-all [] c ys h e = rw e
  run-all (x ∷ l) c ys h e = go (p x) h (run-all l c ys)
    where
      go : (t : Bool) → cond t zero (suc (first_where p l)) ≡ suc (length l)
          → (first_where p l ≡ length l → p c ≡ true → first_where p (l ++ c ∷ ys) ≡ length l)
          → cond t zero (suc (first_where p (l ++ c ∷ ys))) ≡ suc (length l)
      go true h r = absurd (omega arith)
      go false h r = ap suc (r (omega arith) e)

  pub run_take : (xs : List A) → first_where p (take (first_where p xs) xs) ≡ length (take (first_where p xs) xs)
  unfolding first_where
  run_take [] = refl
  run_take (x ∷ xs) = go (p x) refl (run_take xs)
    where
      go : (t : Bool) → p x ≡ t → first_where p (take (first_where p xs) xs) ≡ length (take (first_where p xs) xs)
          → first_where p (take (cond t zero (suc (first_where p xs))) (x ∷ xs)) ≡ length (take (cond t zero (suc (first_where p xs))) (x ∷ xs))
      go true e r = refl
      go false e r = rw e (ap suc r)

  pub run-within : (xs : List A) → first_where p xs ≤ length xs
  unfolding first_where
  run-within [] = omega arith
  run-within (x ∷ xs) = go (p x) (run-within xs)
    where
      go : (t : Bool) → first_where p xs ≤ length xs → cond t zero (suc (first_where p xs)) ≤ suc (length xs)
      go true r = omega arith
      go false r = omega arith
