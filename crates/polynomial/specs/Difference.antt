-- How far apart the two ends of an exchange of polynomials modulo X^n + 1 and q end.
--   difference n s e s' e' e'' k   entry k of d = s'e + e'' - e's, before any remainder (demand 3)
--   Identity   the replier's v less the initiator's w is d modulo q, whatever n and q
--   Largest    BCNS: with secrets and noise from -51 to 51, d is at most 5,326,899 in size
use Rattle.std.specs.Prelude.{List, ℕ, ◌<◌, ◌≤◌, ℤ, nat_abs, ◌+ℤ◌, ◌-ℤ◌}
use Rattle.numbers.specs.Congruence.{◌≅⟨◌⟩◌}
use Rattle.lists.specs.{Entries.nums, Entries.ints, Ranges.Within}
use Rattle.polynomial.specs.Product.{product, mixed, bare}

unfoldable pub difference : ℕ → List ℤ → List ℤ → List ℤ → List ℤ → List ℤ → ℕ → ℤ
difference n s e s' e' e'' k = product n (ints s') (ints e) k +ℤ ints e'' k -ℤ product n (ints e') (ints s) k

abbrev pub Identity : Type 0
Identity =
    (q n : ℕ) → 0 < q → (a : List ℕ) (s e s' e' e'' : List ℤ) (k : ℕ) → k < n →
    nums (mixed q n (mixed q n a s e) s' e'') k -ℤ nums (bare q n (mixed q n a s' e') s) k ≅⟨ q ⟩ difference n s e s' e' e'' k

abbrev pub Largest : Type 0
Largest =
    (s e s' e' e'' : List ℤ) → Within 51 s → Within 51 e → Within 51 s' → Within 51 e' → Within 51 e'' →
    (k : ℕ) → k < 1024 → nat_abs (difference 1024 s e s' e' e'' k) ≤ 5326899
