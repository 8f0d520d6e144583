-- What std's test of all numbers says.
--   all-zeros   all are 0 where the list is blank
use Rattle.lists.proofs.Kit.{refl, List, [], Bool, true, false, cond, ℕ, eqb}
use Rattle.std.proofs.Common.{◌≡◌, ◌∷◌, ◌&&◌}
use Rattle.std.specs.List.{list_all}
use Rattle.blank.specs.Blank.{blank}

pub all-zeros : (xs : List ℕ) → list_all (λ (x : ℕ). eqb x 0) xs ≡ blank xs
unfolding blank
all-zeros [] = refl
all-zeros (x ∷ xs) = rw (all-zeros xs) (go (eqb x 0))
  where
    go : (t : Bool) → (t && blank xs) ≡ cond t (blank xs) false
    go true = refl
    go false = refl
