-- V - W is D = S'E + E'' - E'S modulo q, entry by entry, and the size of D: what demand 3 measures. Once over n, m and q.
--   right-at, left_at, bare-at   the entries of what is computed, modulo q
--   meet                the identity, of any b, u, v, w that are what they should be modulo q
--   identity            the identity, of what the two ends compute
--   apart-difference    how far V and W are apart is how far D is from a multiple of q
--   difference-size     D is at most 2 n B B + B in size, where secrets and noise are at most B in size
use Rattle.lists.proofs.Kit.{refl, ◌∙◌, ap, List, ℕ, get_or, ℤ, nat_abs}
use Rattle.std.proofs.Common.{◌≡◌, ◌+◌, ◌*◌, ◌<◌, ◌≤◌, ◌+ℤ◌, ◌-ℤ◌}
use Rattle.numbers.specs.{Residue.distance, Residue.apart, Congruence.◌≅⟨◌⟩◌}
use Rattle.numbers.proofs.Congruence.{eq-≅, ◌⨾◌, add-≅, sub-≅, residue-≅}
use Rattle.numbers.proofs.{Ring.cancel, Size.abs-three, Nearest.distance-same}
use Rattle.lists.specs.{Entries.nums, Entries.ints, Ranges.Within}
use Rattle.matrix.specs.Matrix.{times, nums_at, ints_at, right_mixed, left_mixed, bare}
use Rattle.matrix.specs.Difference.{difference, Identity}
use Rattle.matrix.proofs.{Laws.times-≅, Laws.times-add-left, Laws.times-add-right, Laws.times-assoc, Laws.times-size, Rows.nums-rows}

-- of any b and u, v and w that are what they should be modulo q
pub meet :
    {q : ℕ} (n : ℕ) (a s e s' e' e'' b u : ℕ → ℕ → ℤ) (i j : ℕ) (v w : ℤ) →
    ((t : ℕ) → t < n → b t j ≅⟨ q ⟩ times n a s t j +ℤ e t j) →
    ((t : ℕ) → t < n → u i t ≅⟨ q ⟩ times n s' a i t +ℤ e' i t) →
    v ≅⟨ q ⟩ times n s' b i j +ℤ e'' i j →
    w ≅⟨ q ⟩ times n u s i j →
    v -ℤ w ≅⟨ q ⟩ times n s' e i j +ℤ e'' i j -ℤ times n e' s i j
meet n a s e s' e' e'' b u i j v w hb hu hv hw =
    sub-≅
    (hv
    ⨾ add-≅ (times-≅ n s' b s' (λ x y. times n a s x y +ℤ e x y) i j (λ t p. eq-≅ refl) hb) (eq-≅ refl)
    ⨾ eq-≅ (ap (λ (t : ℤ). t +ℤ e'' i j) (times-add-right n s' (times n a s) e i j)))
    (hw
    ⨾ times-≅ n u s (λ x y. times n s' a x y +ℤ e' x y) s i j hu (λ t p. eq-≅ refl)
    ⨾ eq-≅ (times-add-left n (times n s' a) e' s i j ∙ ap (λ (t : ℤ). t +ℤ times n e' s i j) (times-assoc n n s' a s i j)))
    ⨾ eq-≅ (cancel (times n s' (times n a s) i j) (times n s' e i j) (e'' i j) (times n e' s i j))

module _ (q n m : ℕ) (hq : 0 < q) where
  pub right-at : (r : ℕ) (x : List ℕ) (s e : List ℤ) (i j : ℕ) → i < r → j < m
      → nums_at m (right_mixed q r n m x s e) i j ≅⟨ q ⟩ times n (nums_at n x) (ints_at m s) i j +ℤ ints_at m e i j
  unfolding right_mixed
  right-at r x s e i j p h = eq-≅ (nums-rows r m _ i j p h) ⨾ residue-≅ q _ hq

  pub left_at : (c : ℕ) (s : List ℤ) (y : List ℕ) (e : List ℤ) (i j : ℕ) → i < m → j < c
      → nums_at c (left_mixed q n c m s y e) i j ≅⟨ q ⟩ times n (ints_at n s) (nums_at c y) i j +ℤ ints_at c e i j
  unfolding left_mixed
  left_at c s y e i j p h = eq-≅ (nums-rows m c _ i j p h) ⨾ residue-≅ q _ hq

  pub bare-at : (u : List ℕ) (s : List ℤ) (i j : ℕ) → i < m → j < m → nums_at m (bare q n m u s) i j ≅⟨ q ⟩ times n (nums_at n u) (ints_at m s) i j
  unfolding bare
  bare-at u s i j p h = eq-≅ (nums-rows m m _ i j p h) ⨾ residue-≅ q _ hq

pub identity : Identity
unfolding difference
identity q n m hq a s e s' e' e'' i j hi hj =
    meet n (nums_at n a) (ints_at m s) (ints_at m e) (ints_at n s') (ints_at n e') (ints_at m e'')
    (nums_at m (right_mixed q n n m a s e)) (nums_at n (left_mixed q n n m s' a e')) i j _ _
    (λ t p. right-at q n m hq n a s e t j p hj) (λ t p. left_at q n m hq n s' a e' i t hi p)
    (left_at q n m hq m s' (right_mixed q n n m a s e) e'' i j hi hj) (bare-at q n m hq (left_mixed q n n m s' a e') s i j hi hj)

pub apart-difference :
    (q n m : ℕ) → 0 < q → (a : List ℕ) (s e s' e' e'' : List ℤ) (i j : ℕ) → i < m → j < m →
    apart q (get_or (left_mixed q n m m s' (right_mixed q n n m a s e) e'') (i * m + j) 0) (get_or (bare q n m (left_mixed q n n m s' a e') s) (i * m + j) 0)
    ≡ distance q (difference n m s e s' e' e'' i j)
unfolding apart nums_at nums
apart-difference q n m hq a s e s' e' e'' i j hi hj = distance-same q hq (identity q n m hq a s e s' e' e'' i j hi hj)

pub difference-size :
    (n m B : ℕ) (s e s' e' e'' : List ℤ) → Within B s → Within B e → Within B s' → Within B e' → Within B e'' → (i j : ℕ) →
    nat_abs (difference n m s e s' e' e'' i j) ≤ 2 * (n * (B * B)) + B
unfolding difference ints_at ints
difference-size n m B s e s' e' e'' hs he hs' he' he'' i j =
    abs-three (times n (ints_at n s') (ints_at m e) i j) (ints_at m e'' i j) (times n (ints_at n e') (ints_at m s) i j)
    (times-size n B B (ints_at n s') (ints_at m e) i j (λ t p. hs'.within _) (λ t p. he.within _))
    (he''.within _)
    (times-size n B B (ints_at n e') (ints_at m s) i j (λ t p. he'.within _) (λ t p. hs.within _))
