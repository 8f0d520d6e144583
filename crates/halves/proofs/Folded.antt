-- The full product, folded, is the product of 01's rule: here the natural numbers of the code meet the whole numbers of the rule. Once over n.
--   product-folded    modulo X^n + 1: what passes X^(n - 1) comes round with a minus
use Rattle.lists.proofs.Kit.{◌≡◌, ◌∙◌, sym, ap, ap₂, ℕ, suc, ◌+◌, ◌*◌, ◌-◌, ◌<◌, arith, mul-zero, zero-mul, ℤ, pos, neg_ℤ, ◌+ℤ◌, ◌-ℤ◌, ◌*ℤ◌}
use Rattle.numbers.specs.Sum.{sum_ℕ, sum_ℤ}
use Rattle.numbers.proofs.{Ring.mul-neg, Sums.natural, Sums.whole, Sums.sum-ext, Sums.sum-split, Sums.sum-none, Sums.sum-neg, Sums.pos_sum}
use Rattle.polynomial.specs.Product.{turn, product}
use Rattle.polynomial.proofs.Turn.{turn_in, turn-over}
use Rattle.halves.specs.Steps.{full, cut}
use Rattle.halves.proofs.Full.{cut_in, cut_out}

module _ (k r : ℕ) (a b : ℕ → ℕ) where
  abbrev n : ℕ
  n = suc k + r

  A : ℕ → ℕ
  A = cut n a

  B : ℕ → ℕ
  B = cut n b

  Za : ℕ → ℤ
  Za j = pos (a j)

  Zb : ℕ → ℤ
  Zb j = pos (b j)

  -- the products that pass X^(n - 1)
  over : ℕ → ℕ
  over j = A (suc k + j) * B (n + k - (suc k + j))

  passed : full A B (n + k) ≡ sum_ℕ r over
  unfolding full over A B
  passed =
      let e : suc (n + k) ≡ suc k + (r + suc k) = omega arith in
      ap (λ (i : ℕ). sum_ℕ i (λ u. A u * B (n + k - u))) e
      ∙ sum-split natural (suc k) (r + suc k) (λ u. A u * B (n + k - u))
      ∙ ap₂ (λ (s t : ℕ). s + t)
      (sum-none natural (suc k) _ (λ u p. ap (λ (x : ℕ). A u * x) (cut_out n b (n + k - u) (omega arith)) ∙ mul-zero (A u)))
      (sum-split natural r (suc k) (λ j. A (suc k + j) * B (n + k - (suc k + j)))
      ∙ ap (λ (t : ℕ). sum_ℕ r over + t) (sum-none natural (suc k) _ (λ j p.
      ap (λ (x : ℕ). x * B (n + k - (suc k + (r + j)))) (cut_out n a (suc k + (r + j)) (omega arith)) ∙ zero-mul (B (n + k - (suc k + (r + j)))))))
      ∙ omega arith

  stays : sum_ℤ (suc k) (λ u. Za u *ℤ turn n Zb u k) ≡ pos (full A B k)
  unfolding full A B Za Zb
  stays =
      sum-ext whole (suc k) _ _ (λ u p.
      ap (λ (t : ℤ). pos (a u) *ℤ t) (turn_in n (λ j. pos (b j)) u k (omega arith))
      ∙ ap₂ (λ (s t : ℕ). pos (s * t)) (sym (cut_in n a u (omega arith))) (sym (cut_in n b (k - u) (omega arith))))
      ∙ sym (pos_sum (suc k) (λ u. A u * B (k - u)))

  comes-round : sum_ℤ r (λ j. Za (suc k + j) *ℤ turn n Zb (suc k + j) k) ≡ neg_ℤ (pos (full A B (n + k)))
  unfolding over A B Za Zb
  comes-round =
      sum-ext whole r _ (λ j. neg_ℤ (pos (over j))) (λ j p.
      ap (λ (t : ℤ). pos (a (suc k + j)) *ℤ t) (turn-over n (λ j. pos (b j)) (suc k + j) k (omega arith))
      ∙ mul-neg (pos (a (suc k + j))) (pos (b (n + k - (suc k + j))))
      ∙ ap₂ (λ (s t : ℕ). neg_ℤ (pos (s * t))) (sym (cut_in n a (suc k + j) (omega arith))) (sym (cut_in n b (n + k - (suc k + j)) (omega arith))))
      ∙ sum-neg r (λ j. pos (over j))
      ∙ ap neg_ℤ (sym (pos_sum r over) ∙ ap pos (sym passed))

  both : product n Za Zb k ≡ pos (full A B k) -ℤ pos (full A B (n + k))
  unfolding product
  both = sum-split whole (suc k) r (λ u. Za u *ℤ turn n Zb u k) ∙ ap₂ (λ (s t : ℤ). s +ℤ t) stays comes-round

pub product-folded :
    (n : ℕ) (a b : ℕ → ℕ) (k : ℕ) → k < n →
    product n (λ j. pos (a j)) (λ j. pos (b j)) k ≡ pos (full (cut n a) (cut n b) k) -ℤ pos (full (cut n a) (cut n b) (n + k))
unfolding A B Za Zb
product-folded n a b k p =
    let e : n ≡ suc k + (n - suc k) = omega arith in
    rw e (both k (n - suc k) a b)
