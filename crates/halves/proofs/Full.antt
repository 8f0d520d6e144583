-- The full product of two polynomials, nothing folded: linear in both factors, and powers of X move out. Once over the lengths.
--   shift h a                    X^h times a
--   shift_in, shift-out, cut_in, cut_out   one coefficient
--   cut-ext, cut-split           equal coefficients below n; a polynomial is its lower half and X^h times its upper half
--   full-ext, full-≅             by its factors: equal ones, congruent ones
--   full-add-left, full-add-right, full-shift-left, full-shift-right
--   full-none                    beyond the last coefficient of both
use Rattle.lists.proofs.Kit.{◌≡◌, ◌∙◌, sym, ap, ap₂, cond, ℕ, suc, ◌+◌, ◌*◌, ◌-◌, ◌<◌, ◌≤◌, arith, mul-zero, zero-mul, dec_le, dec_lt, le-leb, lt-leb, lt-ltb}
use Rattle.lists.proofs.Kit.{le-ltb, leb, pos}
use Rattle.numbers.specs.{Sum.sum_ℕ, Congruence.◌≅⟨◌⟩◌}
use Rattle.numbers.proofs.{Sums.natural, Sums.sum-ext, Sums.sum-add, Sums.sum-split, Sums.sum-none, Congruence.mul-≅, Modular.sum_ℕ-≅}
use Rattle.halves.specs.Steps.{full, cut}

unfoldable pub shift : ℕ → (ℕ → ℕ) → ℕ → ℕ
shift h a k = cond (leb h k) (a (k - h)) 0

pub shift_in : (h : ℕ) (a : ℕ → ℕ) (k : ℕ) → h ≤ k → shift h a k ≡ a (k - h)
unfolding shift
shift_in h a k p = rw (le-leb h k p)

pub shift-out : (h : ℕ) (a : ℕ → ℕ) (k : ℕ) → k < h → shift h a k ≡ 0
unfolding shift
shift-out h a k p = rw (lt-leb h k p)

pub cut_in : (n : ℕ) (a : ℕ → ℕ) (k : ℕ) → k < n → cut n a k ≡ a k
unfolding cut
cut_in n a k p = rw (lt-ltb k n p)

pub cut_out : (n : ℕ) (a : ℕ → ℕ) (k : ℕ) → n ≤ k → cut n a k ≡ 0
unfolding cut
cut_out n a k p = rw (le-ltb k n p)

pub cut-ext : (n : ℕ) (f g : ℕ → ℕ) → ((j : ℕ) → j < n → f j ≡ g j) → (j : ℕ) → cut n f j ≡ cut n g j
cut-ext n f g p j = go (dec_lt j n)
  where
    go : Dec (j < n) → cut n f j ≡ cut n g j
    go (yes l) = cut_in n f j l ∙ p j l ∙ sym (cut_in n g j l)
    go (no l) = cut_out n f j (omega arith) ∙ sym (cut_out n g j (omega arith))

pub cut-split : (h : ℕ) (a : ℕ → ℕ) (u : ℕ) → cut (h + h) a u ≡ cut h a u + shift h (cut h (λ k. a (h + k))) u
cut-split h a u = go (dec_lt u h) (dec_lt u (h + h))
  where
    go : Dec (u < h) → Dec (u < h + h) → cut (h + h) a u ≡ cut h a u + shift h (cut h (λ k. a (h + k))) u
    go (yes p) d =
        let e = cut_in (h + h) a u (omega arith) in
        let f = cut_in h a u p in
        let g = shift-out h (cut h (λ k. a (h + k))) u p in
        omega arith
    go (no p) (yes r) =
        let i : a (h + (u - h)) ≡ a u = ap a (omega arith) in
        let e = cut_in (h + h) a u r in
        let f = cut_out h a u (omega arith) in
        let g = shift_in h (cut h (λ k. a (h + k))) u (omega arith) in
        let s = cut_in h (λ k. a (h + k)) (u - h) (omega arith) in
        omega arith
    go (no p) (no r) =
        let e = cut_out (h + h) a u (omega arith) in
        let f = cut_out h a u (omega arith) in
        let g = shift_in h (cut h (λ k. a (h + k))) u (omega arith) in
        let s = cut_out h (λ k. a (h + k)) (u - h) (omega arith) in
        omega arith

-- only what lies at or below k counts
pub full-ext : (a a' b b' : ℕ → ℕ) (k : ℕ) → ((j : ℕ) → j ≤ k → a j ≡ a' j) → ((j : ℕ) → j ≤ k → b j ≡ b' j) → full a b k ≡ full a' b' k
unfolding full
full-ext a a' b b' k p r = sum-ext natural (suc k) _ _ (λ u l. ap₂ (λ (x y : ℕ). x * y) (p u (omega arith)) (r (k - u) (omega arith)))

pub full-≅ :
    {q : ℕ} (a a' b b' : ℕ → ℕ) (k : ℕ) → ((j : ℕ) → pos (a j) ≅⟨ q ⟩ pos (a' j)) → ((j : ℕ) → pos (b j) ≅⟨ q ⟩ pos (b' j)) →
    pos (full a b k) ≅⟨ q ⟩ pos (full a' b' k)
unfolding full
full-≅ a a' b b' k p r = sum_ℕ-≅ (suc k) _ _ (λ u l. mul-≅ (p u) (r (k - u)))

pub full-add-left : (a c b : ℕ → ℕ) (k : ℕ) → full (λ u. a u + c u) b k ≡ full a b k + full c b k
unfolding full
full-add-left a c b k =
    sum-ext natural (suc k) _ (λ u. a u * b (k - u) + c u * b (k - u)) (λ u l. omega arith)
    ∙ sum-add natural (suc k) (λ u. a u * b (k - u)) (λ u. c u * b (k - u))

pub full-add-right : (a b c : ℕ → ℕ) (k : ℕ) → full a (λ u. b u + c u) k ≡ full a b k + full a c k
unfolding full
full-add-right a b c k =
    sum-ext natural (suc k) _ (λ u. a u * b (k - u) + a u * c (k - u)) (λ u l. omega arith)
    ∙ sum-add natural (suc k) (λ u. a u * b (k - u)) (λ u. a u * c (k - u))

pub full-shift-left : (h : ℕ) (a b : ℕ → ℕ) (k : ℕ) → full (shift h a) b k ≡ shift h (full a b) k
unfolding full
full-shift-left h a b k = go (dec_le h k)
  where
    go : Dec (h ≤ k) → full (shift h a) b k ≡ shift h (full a b) k
    go (no p) =
        let l : k < h = omega arith in
        sum-none natural (suc k) _ (λ u r. ap (λ (x : ℕ). x * b (k - u)) (shift-out h a u (omega arith)) ∙ zero-mul (b (k - u)))
        ∙ sym (shift-out h (full a b) k l)
    go (yes p) =
        let e : suc k ≡ h + suc (k - h) = omega arith in
        ap (λ (n : ℕ). sum_ℕ n (λ u. shift h a u * b (k - u))) e
        ∙ sum-split natural h (suc (k - h)) (λ u. shift h a u * b (k - u))
        ∙ ap₂ (λ (x y : ℕ). x + y)
        (sum-none natural h _ (λ u r. ap (λ (x : ℕ). x * b (k - u)) (shift-out h a u r) ∙ zero-mul (b (k - u))))
        (sum-ext natural (suc (k - h)) (λ j. shift h a (h + j) * b (k - (h + j))) (λ j. a j * b (k - h - j)) (λ j r.
        ap₂ (λ (x y : ℕ). x * y) (shift_in h a (h + j) (omega arith) ∙ ap a (omega arith)) (ap b (omega arith))))
        ∙ omega arith
        ∙ sym (shift_in h (full a b) k p)

pub full-shift-right : (h : ℕ) (a b : ℕ → ℕ) (k : ℕ) → full a (shift h b) k ≡ shift h (full a b) k
unfolding full
full-shift-right h a b k = go (dec_le h k)
  where
    go : Dec (h ≤ k) → full a (shift h b) k ≡ shift h (full a b) k
    go (no p) =
        let l : k < h = omega arith in
        sum-none natural (suc k) _ (λ u r. ap (λ (x : ℕ). a u * x) (shift-out h b (k - u) (omega arith)) ∙ mul-zero (a u))
        ∙ sym (shift-out h (full a b) k l)
    go (yes p) =
        let e : suc k ≡ suc (k - h) + h = omega arith in
        ap (λ (n : ℕ). sum_ℕ n (λ u. a u * shift h b (k - u))) e
        ∙ sum-split natural (suc (k - h)) h (λ u. a u * shift h b (k - u))
        ∙ ap₂ (λ (x y : ℕ). x + y)
        (sum-ext natural (suc (k - h)) (λ u. a u * shift h b (k - u)) (λ u. a u * b (k - h - u)) (λ u r.
        ap (λ (x : ℕ). a u * x) (shift_in h b (k - u) (omega arith) ∙ ap b (omega arith))))
        (sum-none natural h _ (λ j r.
        ap (λ (x : ℕ). a (suc (k - h) + j) * x) (shift-out h b (k - (suc (k - h) + j)) (omega arith)) ∙ mul-zero (a (suc (k - h) + j))))
        ∙ omega arith
        ∙ sym (shift_in h (full a b) k p)

pub full-none : (h : ℕ) (a b : ℕ → ℕ) (k : ℕ) → ((j : ℕ) → h ≤ j → a j ≡ 0) → ((j : ℕ) → h ≤ j → b j ≡ 0) → h + h ≤ k → full a b k ≡ 0
unfolding full
full-none h a b k p r l = sum-none natural (suc k) _ (λ u s. go u s (dec_le h u))
  where
    go : (u : ℕ) → u < suc k → Dec (h ≤ u) → a u * b (k - u) ≡ 0
    go u s (yes g) = ap (λ (x : ℕ). x * b (k - u)) (p u g) ∙ zero-mul (b (k - u))
    go u s (no g) = ap (λ (x : ℕ). a u * x) (r (k - u) (omega arith)) ∙ mul-zero (a u)
