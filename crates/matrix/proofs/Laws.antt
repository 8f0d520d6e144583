-- Laws of the product of matrices, once over all sizes.
--   times-≅           it respects congruence: only row i of the first and column j of the second count
--   times-add-left, times-add-right   it distributes over sums
--   times-assoc       (a b) c = a (b c)
--   times-size        an entry, by bounds on those of its factors
use Rattle.lists.proofs.Kit.{◌∙◌, sym, ℕ, ℤ, nat_abs}
use Rattle.std.proofs.Common.{◌≡◌, ◌*◌, ◌<◌, ◌≤◌, ◌+ℤ◌, ◌*ℤ◌}
use Rattle.numbers.specs.Congruence.{◌≅⟨◌⟩◌}
use Rattle.numbers.proofs.Sums.{whole, sum-ext, sum-add, sum-mul, sum-mul-right, sum-swap}
use Rattle.numbers.proofs.{Ring.add-mul, Ring.mul-add, Ring.mul_assoc, Size.abs-mul-≤, Size.abs-sum, Congruence.mul-≅, Congruence.sum-≅}
use Rattle.matrix.specs.Matrix.{times}

pub times-≅ :
    {q : ℕ} (m : ℕ) (a b c d : ℕ → ℕ → ℤ) (i j : ℕ) → ((t : ℕ) → t < m → a i t ≅⟨ q ⟩ c i t) → ((t : ℕ) → t < m → b t j ≅⟨ q ⟩ d t j) →
    times m a b i j ≅⟨ q ⟩ times m c d i j
unfolding times
times-≅ m a b c d i j e f = sum-≅ m _ _ (λ t p. mul-≅ (e t p) (f t p))

pub times-add-left : (m : ℕ) (a b c : ℕ → ℕ → ℤ) (i j : ℕ) → times m (λ x y. a x y +ℤ b x y) c i j ≡ times m a c i j +ℤ times m b c i j
unfolding times
times-add-left m a b c i j = sum-ext whole m _ _ (λ t p. add-mul (a i t) (b i t) (c t j)) ∙ sum-add whole m _ _

pub times-add-right : (m : ℕ) (a b c : ℕ → ℕ → ℤ) (i j : ℕ) → times m a (λ x y. b x y +ℤ c x y) i j ≡ times m a b i j +ℤ times m a c i j
unfolding times
times-add-right m a b c i j = sum-ext whole m _ _ (λ t p. mul-add (a i t) (b t j) (c t j)) ∙ sum-add whole m _ _

pub times-assoc : (m n : ℕ) (a b c : ℕ → ℕ → ℤ) (i j : ℕ) → times n (times m a b) c i j ≡ times m a (times n b c) i j
unfolding times
times-assoc m n a b c i j =
    sum-ext whole n _ _ (λ t p. sym (sum-mul-right whole m (c t j) _) ∙ sum-ext whole m _ _ (λ u r. mul_assoc (a i u) (b u t) (c t j)))
    ∙ sum-swap whole n m (λ t u. a i u *ℤ (b u t *ℤ c t j))
    ∙ sum-ext whole m _ _ (λ u r. sum-mul whole n (a i u) _)

pub times-size :
    (m A B : ℕ) (a b : ℕ → ℕ → ℤ) (i j : ℕ) → ((t : ℕ) → t < m → nat_abs (a i t) ≤ A) → ((t : ℕ) → t < m → nat_abs (b t j) ≤ B) →
    nat_abs (times m a b i j) ≤ m * (A * B)
unfolding times
times-size m A B a b i j p q = abs-sum m (A * B) _ (λ t l. abs-mul-≤ (a i t) (b t j) (p t l) (q t l))
