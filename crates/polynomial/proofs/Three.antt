-- The sums of a window of 4 m numbers with 2 m secrets from three times m sums. Once over m, on the definitions alone.
--   slide-≅                 the sums of numbers that are congruent, and of the same secrets
--   three-low, three-high   the middle window times both halves of the secrets added, and a difference of two windows times one half
--   few-low, few-high, few-middle, few-ext   the sizes keep their bound: half as many products of secrets twice as large
use Rattle.lists.proofs.Kit.{◌≡◌, ◌∙◌, sym, ap, ap₂, ℕ, ◌+◌, ◌<◌, arith, ℤ, ◌+ℤ◌, ◌-ℤ◌, ◌*ℤ◌, +ℤ_comm}
use Rattle.numbers.specs.Congruence.{◌≅⟨◌⟩◌}
use Rattle.numbers.proofs.Difference.{as-diff, diff-≡, diffs}
use Rattle.numbers.proofs.{Congruence.mul-≅, Congruence.sum-≅, Congruence.eq-≅, Size.abs-add, Sums.whole, Sums.sum-ext, Sums.sum-add, Sums.sum-split}
use Rattle.polynomial.specs.Steps.{dot, slide, Few}

pub slide-≅ :
    {q : ℕ} (n : ℕ) (w v s t : ℕ → ℤ) (k : ℕ) → k < n → ((i : ℕ) → i + 1 < n + n → w i ≅⟨ q ⟩ v i) → ((j : ℕ) → j < n → s j ≡ t j) → slide n w s k ≅⟨ q ⟩ slide n v t k
unfolding slide dot
slide-≅ n w v s t k h hw hs = sum-≅ n _ _ (λ j p. mul-≅ (hw (k + j) (omega arith)) (eq-≅ (hs j p)))

-- w s + x t = x (s + t) + (w - x) s, and with t apart
low : (w x s t : ℤ) → w *ℤ s +ℤ x *ℤ t ≡ x *ℤ (s +ℤ t) +ℤ (w -ℤ x) *ℤ s
low w x s t = rw (as-diff w, as-diff x, as-diff s, as-diff t) (simp diffs (diff-≡ _ _ _ _ (omega arith)))

high : (x y s t : ℤ) → x *ℤ s +ℤ y *ℤ t ≡ x *ℤ (s +ℤ t) +ℤ (y -ℤ x) *ℤ t
high x y s t = rw (as-diff x, as-diff y, as-diff s, as-diff t) (simp diffs (diff-≡ _ _ _ _ (omega arith)))

module _ (m : ℕ) (w s : ℕ → ℤ) (k : ℕ) where
  abbrev middle : ℤ
  middle = slide m (λ i. w (m + i)) (λ j. s j +ℤ s (m + j)) k

  pub three-low : slide (m + m) w s k ≡ slide m (λ i. w i -ℤ w (m + i)) s k +ℤ middle
  unfolding slide dot
  three-low =
      sum-split whole m m (λ j. w (k + j) *ℤ s j)
      ∙ sym (sum-add whole m (λ j. w (k + j) *ℤ s j) (λ j. w (k + (m + j)) *ℤ s (m + j)))
      ∙ sum-ext whole m _ _ (λ j p.
      let e : k + (m + j) ≡ m + (k + j) = omega arith in
      ap (λ (i : ℕ). w (k + j) *ℤ s j +ℤ w i *ℤ s (m + j)) e
      ∙ low (w (k + j)) (w (m + (k + j))) (s j) (s (m + j))
      ∙ +ℤ_comm (w (m + (k + j)) *ℤ (s j +ℤ s (m + j))) ((w (k + j) -ℤ w (m + (k + j))) *ℤ s j))
      ∙ sum-add whole m (λ j. (w (k + j) -ℤ w (m + (k + j))) *ℤ s j) (λ j. w (m + (k + j)) *ℤ (s j +ℤ s (m + j)))

  pub three-high : slide (m + m) w s (m + k) ≡ slide m (λ i. w (m + m + i) -ℤ w (m + i)) (λ j. s (m + j)) k +ℤ middle
  unfolding slide dot
  three-high =
      sum-split whole m m (λ j. w (m + k + j) *ℤ s j)
      ∙ sym (sum-add whole m (λ j. w (m + k + j) *ℤ s j) (λ j. w (m + k + (m + j)) *ℤ s (m + j)))
      ∙ sum-ext whole m _ _ (λ j p.
      let e : m + k + (m + j) ≡ m + m + (k + j) = omega arith in
      let f : m + k + j ≡ m + (k + j) = omega arith in
      ap₂ (λ (h i : ℕ). w h *ℤ s j +ℤ w i *ℤ s (m + j)) f e
      ∙ high (w (m + (k + j))) (w (m + m + (k + j))) (s j) (s (m + j))
      ∙ +ℤ_comm (w (m + (k + j)) *ℤ (s j +ℤ s (m + j))) ((w (m + m + (k + j)) -ℤ w (m + (k + j))) *ℤ s (m + j)))
      ∙ sum-add whole m (λ j. (w (m + m + (k + j)) -ℤ w (m + (k + j))) *ℤ s (m + j)) (λ j. w (m + (k + j)) *ℤ (s j +ℤ s (m + j)))

-- ---- the sizes

module _ {m : ℕ} {s : ℕ → ℤ} (f : Few (m + m) s) where
  pub few-low : Few m s
  few-low = record { size = f.size; room = omega (arith, f.room); within = λ j p. f.within j (omega arith) }

  pub few-high : Few m (λ j. s (m + j))
  few-high = record { size = f.size; room = omega (arith, f.room); within = λ j p. f.within (m + j) (omega arith) }

  pub few-middle : Few m (λ j. s j +ℤ s (m + j))
  few-middle =
      record {
        size = f.size + f.size;
        room = omega (arith, f.room);
        within = λ j p. omega (arith, abs-add (s j) (s (m + j)), f.within j (omega arith), f.within (m + j) (omega arith));
      }

-- of equal secrets
pub few-ext : {m : ℕ} {s t : ℕ → ℤ} → Few m s → ((j : ℕ) → j < m → t j ≡ s j) → Few m t
few-ext {m} {s} {t} f e = record { size = f.size; room = f.room; within = λ j p. rw (e j p) (f.within j p) }
