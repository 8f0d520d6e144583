-- Part after part is the part of both joined, once over n, the modulus and how a matrix enters the sums.
--   append_at            an entry of two lists joined is the sum of theirs, each where it stands
--   placed-long, placed_at, placed-before, placed-in, placed-after   a placed part: its length, a part of two, and its entries
--   right-linear, left-linear   the products of Offer and of Reply add up where the matrices do
--   both-gained          the sums of y, then those of z, are those of x = y + z
--   joined, so_far, nothing, whole-right, whole-left   what is shown
use Rattle.lists.proofs.Kit.{◌≡◌, refl, ◌∙◌, sym, ap, List, [], ◌∷◌, ◌++◌, append_assoc, append-nil, ℕ, zero, suc, ◌+◌, ◌*◌, ◌/◌, ◌%◌, ◌<◌, ◌≤◌, arith}
use Rattle.lists.proofs.Kit.{mod-eq_of_lt, length, get_or, replicate, length-replicate, length-append, List·getD-eq-default, get_or-append-add}
use Rattle.numbers.specs.Sum.{sum_ℕ}
use Rattle.numbers.proofs.Sums.{natural, sum-ext, sum-add, sum-none}
use Rattle.lists.specs.Entries.{tab}
use Rattle.lists.proofs.{Entries.tab-ext, Entries.tab-getD, Same.equal-all}
use Rattle.matrix.specs.Words.{gained, right_term, left_term}
use Rattle.matrix.proofs.{Steps.gained-length, Steps.gained-at, Steps.wrapped, Whole.right-any, Whole.left-any}
use Rattle.parts.specs.{Parts.placed, Joining.Linear, Joining.Joined, Joining.SoFar, Joining.Nothing, Joining.WholeRight, Joining.WholeLeft}

-- ---- entries

pub append_at : (xs p : List ℕ) (i : ℕ) → get_or (xs ++ p) i 0 ≡ get_or xs i 0 + get_or (placed (length xs) p) i 0
unfolding placed
append_at [] p i = omega arith
append_at (x ∷ xs) p zero = omega arith
append_at (x ∷ xs) p (suc i) = append_at xs p i

pub placed-long : (at : ℕ) (p : List ℕ) → length (placed at p) ≡ at + length p
unfolding placed
placed-long at p = length-append (replicate at 0) p ∙ ap (λ (k : ℕ). k + length p) (length-replicate at 0)

pub placed_at : (at : ℕ) (p p' : List ℕ) (i : ℕ)
    → get_or (placed at (p ++ p')) i 0 ≡ get_or (placed at p) i 0 + get_or (placed (at + length p) p') i 0
unfolding placed
placed_at at p p' i =
    ap (λ (l : List ℕ). get_or l i 0) (sym (append_assoc (replicate at 0) p p'))
    ∙ append_at (placed at p) p' i
    ∙ ap (λ (k : ℕ). get_or (placed at p) i 0 + get_or (placed k p') i 0) (placed-long at p)

pub placed-before : (at : ℕ) (p : List ℕ) (i : ℕ) → i < at → get_or (placed at p) i 0 ≡ 0
unfolding placed
placed-before zero p i h = absurd (omega arith)
placed-before (suc at) p zero h = refl
placed-before (suc at) p (suc i) h = placed-before at p i (omega arith)

pub placed-in : (at : ℕ) (p : List ℕ) (i : ℕ) → get_or (placed at p) (at + i) 0 ≡ get_or p i 0
unfolding placed
placed-in at p i =
    ap (λ (k : ℕ). get_or (replicate at 0 ++ p) (k + i) 0) (sym (length-replicate at 0)) ∙ get_or-append-add (replicate at 0) p i 0

pub placed-after : (at : ℕ) (p : List ℕ) (i : ℕ) → at + length p ≤ i → get_or (placed at p) i 0 ≡ 0
placed-after at p i h = List·getD-eq-default (placed at p) 0 {n = i} (rw (placed-long at p) h)

placed-none : (at i : ℕ) → get_or (placed at []) i 0 ≡ 0
unfolding placed
placed-none at i = ap (λ (l : List ℕ). get_or l i 0) (append-nil (replicate at 0)) ∙ equal-all (λ (x : ℕ). x ≡ 0) 0 at refl i

-- ---- sums

pub right-linear : (n : ℕ) (cols : List ℕ) → Linear (λ x. right_term n x cols)
unfolding right_term
right-linear n cols =
    record { adds = λ x y z h k t. ap (λ (a : ℕ). a * get_or cols (k % 8 * n + t) 0) (h (k / 8 * n + t)) ∙ omega arith }

pub left-linear : (n : ℕ) (s : List ℕ) → Linear (left_term n n s)
unfolding left_term
left-linear n s =
    record { adds = λ x y z h k t. ap (λ (a : ℕ). a * get_or s (k / n * n + t) 0) (h (t * n + k % n)) ∙ omega arith }

module _ (m n : ℕ) (T : List ℕ → ℕ → ℕ → ℕ) (lin : Linear T) where
  pub both-gained : (x y z ws : List ℕ) → ((i : ℕ) → get_or x i 0 ≡ get_or y i 0 + get_or z i 0)
      → gained m n (T z) (gained m n (T y) ws) ≡ gained m n (T x) ws
  unfolding gained
  both-gained x y z ws h =
      ap (λ (l : ℕ). tab l (λ k. (get_or (gained m n (T y) ws) k 0 + sum_ℕ n (T z k)) % m)) (gained-length m n (T y) ws)
      ∙ tab-ext (length ws) _ _
      (λ k p.
      ap (λ (a : ℕ). (a + sum_ℕ n (T z k)) % m) (gained-at m n (T y) ws k p)
      ∙ wrapped m (get_or ws k 0) (sum_ℕ n (T y k)) (sum_ℕ n (T z k))
      ∙ ap (λ (a : ℕ). (get_or ws k 0 + a) % m)
      (sym (sum-add natural n (T y k) (T z k)) ∙ sum-ext natural n _ _ (λ t l. sym (lin.adds x y z h k t))))

-- zeros add nothing: 0 = 0 + 0
no-term : (T : List ℕ → ℕ → ℕ → ℕ) → Linear T → (x : List ℕ) → ((i : ℕ) → get_or x i 0 ≡ 0) → (k t : ℕ) → T x k t ≡ 0
no-term T lin x h k t = let e = lin.adds x x x (λ i. omega (arith, h i)) k t in omega arith

-- ---- what is shown

pub joined : Joined
joined m n T lin at p p' ws = both-gained m n T lin _ _ _ ws (placed_at at p p')

pub so_far : SoFar
so_far m n T lin xs p ws = both-gained m n T lin _ _ _ ws (append_at xs p)

pub nothing : Nothing
unfolding gained
nothing m n T lin at ws b =
    tab-ext (length ws) _ _
    (λ k p.
    let z : sum_ℕ n (T (placed at []) k) ≡ 0 = sum-none natural n _ (λ t l. no-term T lin (placed at []) (placed-none at) k t) in
    ap (λ (x : ℕ). x % m) (omega arith) ∙ mod-eq_of_lt (b.below k))
    ∙ tab-getD ws 0

pub whole-right : WholeRight
whole-right m q n a s e some w some-q h = right-any m q n n a s e some w some-q h

pub whole-left : WholeLeft
whole-left m q n a s e some w some-q some-n long h = left-any m q n n s a e some w some-q some-n long h
