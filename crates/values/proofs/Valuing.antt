-- No number is q or more exactly where the place of the first is their count.
--   none_over, over_none
use Rattle.lists.proofs.Kit.{List, ℕ, arith, leb, length, lt-leb}
use Rattle.std.proofs.Common.{◌≡◌, ◌<◌, ◌≤◌}
use Rattle.lists.specs.{Ranges.Below, First.first_over_lem}
use Rattle.lists.proofs.First.{none_found, all-below}

pub none_over : {q at : ℕ} (xs : List ℕ) → 0 < q → at ≡ first_over_lem q xs → length xs ≤ at → Below q xs
none_over {q} xs h e l = all-below q xs h (omega arith)

pub over_none : (q : ℕ) (xs : List ℕ) → Below q xs → first_over_lem q xs ≡ length xs
unfolding first_over_lem
over_none q xs h = none_found (λ x. leb q x) 0 xs (λ k. lt-leb _ _ (h.below k))
