-- What the code makes of whole matrices is what the definitions say.
--   column-at, columns-length   an entry of the columns of S, and how many there are
--   right-any, left-any    words of any modulus m that is a multiple of q: XS + E by rows of X and columns of S; SY + E by rows of Y
--   right_is, left_is, bare-is   so of what the code has made; US as XS + E without noise
use Rattle.lists.proofs.Kit.{refl, ◌∙◌, ap, ap₂, List, ℕ, arith, mod-lt, div-lt_iff_lt-mul, digits_div, digits_mod, digits_lt}
use Rattle.std.proofs.Common.{◌≡◌, ◌+◌, ◌*◌, ◌/◌, ◌%◌, ◌<◌, ◌+ℤ◌, ◌*ℤ◌}
use Rattle.lists.proofs.Kit.{length, get_or, replicate, ℤ, pos, +ℤ_idr, *ℤ_comm}
use Rattle.numbers.specs.{Residue.residue, Congruence.◌≅⟨◌⟩◌}
use Rattle.numbers.proofs.Congruence.{eq-≅, refl-≅, ◌⨾◌, mul-≅, residue-≅}
use Rattle.lists.specs.Entries.{nums, ints}
use Rattle.lists.proofs.{Entries.tab-length, Entries.tab-at, Entries.tab-ext, Same.equal-all}
use Rattle.matrix.specs.Matrix.{times, rows, nums_at, ints_at, right_mixed, left_mixed, bare}
use Rattle.matrix.specs.{Steps.Shape, Words.words_of, Words.gained, Words.reduced, Words.columns_of, Words.right_term, Words.left_term}
use Rattle.matrix.proofs.Steps.{words-at, mixed, steps-are}

pub column-at : (m n : ℕ) (s : List ℤ) (j t : ℕ) → j < 8 → t < n → get_or (columns_of m n s) (j * n + t) 0 ≡ residue m (ints s (t * 8 + j))
unfolding columns_of
column-at m n s j t p l =
    tab-at (8 * n) _ (j * n + t) 0 (digits_lt p l) ∙ ap₂ (λ (a b : ℕ). residue m (ints s (a * 8 + b))) (digits_mod j l) (digits_div j l)

pub columns-length : (m n : ℕ) (s : List ℤ) → length (columns_of m n s) ≡ 8 * n
unfolding columns_of
columns-length m n s = tab-length (8 * n) _

-- a number times a word that is a secret modulo m
product-≅ : (m : ℕ) → 0 < m → (x w : ℕ) (z : ℤ) → w ≡ residue m z → pos (x * w) ≅⟨ m ⟩ pos x *ℤ z
product-≅ m some x w z e = mul-≅ (refl-≅ (pos x)) (eq-≅ (ap pos e) ⨾ residue-≅ m z some)

pub right-any : (m q n r : ℕ) (x : List ℕ) (s e : List ℤ) → 0 < m → m % q ≡ 0 → 0 < q → length e ≡ 8 * r
    → reduced q (gained m n (right_term n x (columns_of m n s)) (words_of m e)) ≡ right_mixed q r n 8 x s e
unfolding right_mixed nums_at ints_at right_term nums
right-any m q n r x s e some w some-q h =
    mixed m q n some-q some w r 8 _ _ _ e (omega arith)
    (λ k t p b. product-≅ m some (get_or x (k / 8 * n + t) 0) _ _ (column-at m n s (k % 8) t (mod-lt k (omega arith)) b))

pub right_is :
    (m : ℕ) {q n r : ℕ} {x : List ℕ} {s : List ℤ} → 0 < m → m % q ≡ 0 → (e : List ℤ) {l u v out : List ℕ} → Shape q n r x s → l ≡ columns_of m n s →
    length e ≡ 8 * r → u ≡ words_of m e → v ≡ gained m n (right_term n x l) u → out ≡ reduced q v → out ≡ right_mixed q r n 8 x s e
right_is m {q} {n} {r} {x} {s} some w e f d h i g o = steps-are m q n _ e i g o ∙ rw d (right-any m q n r x s e some w f.some h)

pub left-any : (m q n c : ℕ) (s : List ℤ) (y : List ℕ) (e : List ℤ) → 0 < m → m % q ≡ 0 → 0 < q → 0 < c → length s ≡ 8 * n → length e ≡ 8 * c
    → reduced q (gained m n (left_term n c (words_of m s) y) (words_of m e)) ≡ left_mixed q n c 8 s y e
unfolding left_mixed nums_at ints_at left_term nums
left-any m q n c s y e some w some-q some-c long h =
    mixed m q n some-q some w 8 c _ _ _ e h
    (λ k t p b.
    let i : k / c < 8 = (div-lt_iff_lt-mul some-c).1 p in
    product-≅ m some (get_or y (t * c + k % c) 0) _ _ (words-at m s (k / c * n + t) (rw long (digits_lt i b)))
    ⨾ eq-≅ (*ℤ_comm (pos (get_or y (t * c + k % c) 0)) (ints s (k / c * n + t))))

pub left_is :
    (m : ℕ) {q n c : ℕ} {s : List ℤ} {y : List ℕ} → 0 < m → m % q ≡ 0 → (e : List ℤ) {l u v out : List ℕ} → Shape q n c y s → l ≡ words_of m s →
    length e ≡ 8 * c → u ≡ words_of m e → v ≡ gained m n (left_term n c l y) u → out ≡ reduced q v → out ≡ left_mixed q n c 8 s y e
left_is m {q} {n} {c} {s} {y} some w e f d h i g o =
    steps-are m q n _ e i g o ∙ rw d (left-any m q n c s y e some w f.some f.rows-many f.s-long h)

pub bare-is : (q n : ℕ) (u : List ℕ) (s : List ℤ) {out : List ℕ} → out ≡ right_mixed q 8 n 8 u s (replicate 64 (pos 0)) → out ≡ bare q n 8 u s
unfolding right_mixed bare rows ints_at ints
bare-is q n u s o =
    o
    ∙ tab-ext 64 _ _
    (λ k p.
    ap (residue q)
    (ap (λ (z : ℤ). times n (nums_at n u) (ints_at 8 s) (k / 8) (k % 8) +ℤ z) (equal-all (λ z. z ≡ pos 0) (pos 0) 64 refl (k / 8 * 8 + k % 8))
    ∙ +ℤ_idr (times n (nums_at n u) (ints_at 8 s) (k / 8) (k % 8))))
