-- The nearest among the numbers with a mark, as a search over all of them: 01, "Reconciliation", and 02f, the slack used.
--   least_below f p n   the first number below n at which f is least among those with the mark p; n where none has it
--   nearest_to m p x    the first number below m nearest to x, around a circle of m numbers, among those with the mark p
--   gap_to m p x        how far x lies from it, around the circle: the least distance over all numbers with the mark
use Rattle.std.specs.Prelude.{Bool, cond, ℕ, zero, suc, eqb, ltb}
use Rattle.numbers.specs.Residue.{apart}

-- the better of z, the choice below n, and n itself
unfoldable pub choose : Bool → Bool → Bool → ℕ → ℕ → ℕ
choose marked none nearer z n = cond marked (cond none n (cond nearer n z)) (cond none (suc n) z)

unfoldable pub least_below : (ℕ → ℕ) → (ℕ → Bool) → ℕ → ℕ
least_below f p zero = 0
least_below f p (suc n) = choose (p n) (eqb (least_below f p n) n) (ltb (f n) (f (least_below f p n))) (least_below f p n) n

unfoldable pub nearest_to : ℕ → (ℕ → Bool) → ℕ → ℕ
nearest_to m p x = least_below (λ z. apart m z x) p m

unfoldable pub gap_to : ℕ → (ℕ → Bool) → ℕ → ℕ
gap_to m p x = apart m (nearest_to m p x) x
