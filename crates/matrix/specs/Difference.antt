-- How far apart the two ends of an exchange of matrices modulo q end; the shapes are those of `Matrix.antt`.
--   difference n m s e s' e' e'' i j   the entry of D = S'E + E'' - E'S, before any remainder (demand 3)
--   Identity   the replier's V less the initiator's W is D modulo q, whatever n, m and q
use Rattle.std.specs.Prelude.{List, ℕ, ◌<◌, ℤ, ◌+ℤ◌, ◌-ℤ◌}
use Rattle.numbers.specs.Congruence.{◌≅⟨◌⟩◌}
use Rattle.matrix.specs.Matrix.{times, nums_at, ints_at, right_mixed, left_mixed, bare}

unfoldable pub difference : ℕ → ℕ → List ℤ → List ℤ → List ℤ → List ℤ → List ℤ → ℕ → ℕ → ℤ
difference n m s e s' e' e'' i j =
    times n (ints_at n s') (ints_at m e) i j +ℤ ints_at m e'' i j -ℤ times n (ints_at n e') (ints_at m s) i j

abbrev pub Identity : Type 0
Identity =
    (q n m : ℕ) → 0 < q → (a : List ℕ) (s e s' e' e'' : List ℤ) (i j : ℕ) → i < m → j < m →
    nums_at m (left_mixed q n m m s' (right_mixed q n n m a s e) e'') i j -ℤ nums_at m (bare q n m (left_mixed q n n m s' a e') s) i j
    ≅⟨ q ⟩ difference n m s e s' e' e'' i j
