-- One step: the product of two factors of 2 h numbers from three of h. Once over the half length h and the modulus q.
--   rest-≅                 a remainder is congruent
--   less-≅                 q - y for -y
--   step-low, step-mid-low, step-mid-high, step-high   the four quarters of the whole product, from the lower one, the upper one and the middle
use Rattle.lists.proofs.Kit.{◌≡◌, ◌∙◌, sym, ap, ap₂, ℕ, ◌+◌, ◌*◌, ◌-◌, ◌%◌, ◌<◌, ◌≤◌, arith, mod-lt, dec_lt, ℤ, pos, negsuc, ◌+ℤ◌, ◌-ℤ◌}
use Rattle.numbers.specs.Congruence.{◌≅⟨◌⟩◌}
use Rattle.numbers.proofs.Congruence.{eq-≅, refl-≅, sym-≅, ◌⨾◌, add-≅, sub-≅, mod-≅, same-mod}
use Rattle.numbers.proofs.Difference.{as-diff, diff-≡, diffs, pos-sub}
use Rattle.halves.specs.Steps.{full, cut}
use Rattle.halves.proofs.Full.{shift, shift_in, shift-out, cut_in, cut_out, cut-split, full-ext, full-≅, full-add-left, full-add-right, full-shift-left}
use Rattle.halves.proofs.Full.{full-shift-right, full-none}

pub rest-≅ : {q x n : ℕ} → x ≡ n % q → pos x ≅⟨ q ⟩ pos n
rest-≅ {q} {x} {n} e = eq-≅ (ap pos e) ⨾ mod-≅ q n

pub less-≅ : (q x y : ℕ) → y ≤ q → pos (x + (q - y)) ≅⟨ q ⟩ pos x -ℤ pos y
less-≅ q x y l =
    sym-≅
    (record {
      times = negsuc 0;
      equal =
          pos-sub x y
          ∙ diff-≡ x y (x + (q - y)) (1 * q) (omega arith)
          ∙ sym (pos-sub (x + (q - y)) (1 * q));
    })

-- ---- the whole product, exactly

module _ (h : ℕ) (a₀ a₁ b₀ b₁ : ℕ → ℕ) where
  cross : ℕ → ℕ
  cross k = full a₀ b₁ k + full a₁ b₀ k

  whole : ℕ → ℕ
  whole k = full (λ u. a₀ u + shift h a₁ u) (λ u. b₀ u + shift h b₁ u) k

  parts : (k : ℕ) → whole k ≡ full a₀ b₀ k + (shift h (full a₀ b₁) k + shift h (full a₁ b₀) k) + shift h (full a₁ (shift h b₁)) k
  unfolding whole
  parts k =
      let p = full-add-left a₀ (shift h a₁) (λ u. b₀ u + shift h b₁ u) k in
      let r = full-add-right a₀ b₀ (shift h b₁) k in
      let s = full-add-right (shift h a₁) b₀ (shift h b₁) k in
      let t = full-shift-right h a₀ b₁ k in
      let u = full-shift-left h a₁ b₀ k in
      let v = full-shift-left h a₁ (shift h b₁) k in
      omega arith

  sums : (k : ℕ) → full (λ u. a₀ u + a₁ u) (λ u. b₀ u + b₁ u) k ≡ cross k + full a₁ b₁ k + full a₀ b₀ k
  unfolding cross
  sums k =
      let p = full-add-left a₀ a₁ (λ u. b₀ u + b₁ u) k in
      let r = full-add-right a₀ b₀ b₁ k in
      let s = full-add-right a₁ b₀ b₁ k in
      omega arith

  low : (k : ℕ) → k < h → whole k ≡ full a₀ b₀ k
  low k l =
      let e = parts k in
      let f = shift-out h (full a₀ b₁) k l in
      let g = shift-out h (full a₁ b₀) k l in
      let i = shift-out h (full a₁ (shift h b₁)) k l in
      omega arith

  up : (k : ℕ) → h ≤ k → whole k ≡ full a₀ b₀ k + cross (k - h) + shift h (full a₁ b₁) (k - h)
  unfolding cross
  up k l =
      let e = parts k in
      let f = shift_in h (full a₀ b₁) k l in
      let g = shift_in h (full a₁ b₀) k l in
      let i = shift_in h (full a₁ (shift h b₁)) k l in
      let j = full-shift-right h a₁ b₁ (k - h) in
      omega arith

  mid-low : (k : ℕ) → h ≤ k → k < h + h → whole k ≡ full a₀ b₀ k + cross (k - h)
  mid-low k l r =
      let e = up k l in
      let f = shift-out h (full a₁ b₁) (k - h) (omega arith) in
      omega arith

  module _
      (za₀ : (j : ℕ) → h ≤ j → a₀ j ≡ 0)
      (za₁ : (j : ℕ) → h ≤ j → a₁ j ≡ 0)
      (zb₀ : (j : ℕ) → h ≤ j → b₀ j ≡ 0)
      (zb₁ : (j : ℕ) → h ≤ j → b₁ j ≡ 0) where
    mid-high : (k : ℕ) → h + h ≤ k → whole k ≡ full a₁ b₁ (k - (h + h)) + cross (k - h)
    mid-high k l =
        let e = up k (omega arith) in
        let f = shift_in h (full a₁ b₁) (k - h) (omega arith) in
        let i : full a₁ b₁ (k - h - h) ≡ full a₁ b₁ (k - (h + h)) = ap (full a₁ b₁) (omega arith) in
        let g = full-none h a₀ b₀ k za₀ zb₀ l in
        omega arith

    high : (k : ℕ) → h + h + h ≤ k → whole k ≡ full a₁ b₁ (k - (h + h))
    unfolding cross
    high k l =
        let e = mid-high k (omega arith) in
        let f = full-none h a₀ b₁ (k - h) za₀ zb₁ (omega arith) in
        let g = full-none h a₁ b₀ (k - h) za₁ zb₀ (omega arith) in
        omega arith

-- ---- modulo q: x and y are the two factors, of which the first 2 h numbers count; l, u and m are the three products

-- less two, one after the other
less_both : (q c l u m : ℕ) → l ≤ q → u ≤ q → pos m ≅⟨ q ⟩ pos (c + u + l) → pos (m + (q - l) + (q - u)) ≅⟨ q ⟩ pos c
less_both q c l u m hl hu e =
    less-≅ q (m + (q - l)) u hu ⨾ sub-≅ (less-≅ q m l hl ⨾ sub-≅ e (refl-≅ (pos l))) (refl-≅ (pos u)) ⨾ eq-≅ (back (pos c) (pos u) (pos l))
  where
    back : (x y z : ℤ) → x +ℤ y +ℤ z -ℤ z -ℤ y ≡ x
    back x y z = rw (as-diff x, as-diff y, as-diff z) (simp diffs (diff-≡ _ _ _ _ (omega arith)))

module _ (q h : ℕ) (some : 0 < q) (x y l u m : ℕ → ℕ)
    (is-l : (k : ℕ) → k < h + h → l k ≡ full (cut h x) (cut h y) k % q)
    (is-u : (k : ℕ) → k < h + h → u k ≡ full (cut h (λ j. x (h + j))) (cut h (λ j. y (h + j))) k % q)
    (is_m : (k : ℕ) → k < h + h → m k ≡ full (cut h (λ j. (x j + x (h + j)) % q)) (cut h (λ j. (y j + y (h + j)) % q)) k % q) where
  a₀ : ℕ → ℕ
  a₀ = cut h x

  a₁ : ℕ → ℕ
  a₁ = cut h (λ j. x (h + j))

  b₀ : ℕ → ℕ
  b₀ = cut h y

  b₁ : ℕ → ℕ
  b₁ = cut h (λ j. y (h + j))

  halves : (k : ℕ) → full (cut (h + h) x) (cut (h + h) y) k ≡ whole h a₀ a₁ b₀ b₁ k
  unfolding a₀ a₁ b₀ b₁ whole
  halves k = full-ext _ _ _ _ k (λ j r. cut-split h x j) (λ j r. cut-split h y j)

  -- the sum of the halves, reduced
  half-sum : (f : ℕ → ℕ) (j : ℕ) → pos (cut h (λ i. (f i + f (h + i)) % q) j) ≅⟨ q ⟩ pos (cut h f j + cut h (λ i. f (h + i)) j)
  half-sum f j = go (dec_lt j h)
    where
      go : Dec (j < h) → pos (cut h (λ i. (f i + f (h + i)) % q) j) ≅⟨ q ⟩ pos (cut h f j + cut h (λ i. f (h + i)) j)
      go (yes p) =
          eq-≅ (ap pos (cut_in h (λ i. (f i + f (h + i)) % q) j p))
          ⨾ mod-≅ q _
          ⨾ eq-≅ (ap₂ (λ (s t : ℕ). pos (s + t)) (sym (cut_in h f j p)) (sym (cut_in h (λ i. f (h + i)) j p)))
      go (no p) =
          eq-≅
          (ap pos (cut_out h (λ i. (f i + f (h + i)) % q) j (omega arith))
          ∙ ap₂ (λ (s t : ℕ). pos (s + t)) (sym (cut_out h f j (omega arith))) (sym (cut_out h (λ i. f (h + i)) j (omega arith))))

  abbrev mid : ℕ → ℕ
  mid k = (m k + (q - l k) + (q - u k)) % q

  -- the middle product less the two others
  is-mid : (k : ℕ) → k < h + h → pos (mid k) ≅⟨ q ⟩ pos (cross h a₀ a₁ b₀ b₁ k)
  unfolding a₀ a₁ b₀ b₁
  is-mid k r =
      let c = cross h a₀ a₁ b₀ b₁ k in
      let lq : l k ≤ q = rw (is-l k r) (omega (arith, mod-lt (full a₀ b₀ k) some)) in
      let uq : u k ≤ q = rw (is-u k r) (omega (arith, mod-lt (full a₁ b₁ k) some)) in
      let el : pos (l k) ≅⟨ q ⟩ pos (full a₀ b₀ k) = rest-≅ (is-l k r) in
      let eu : pos (u k) ≅⟨ q ⟩ pos (full a₁ b₁ k) = rest-≅ (is-u k r) in
      let em : pos (m k) ≅⟨ q ⟩ pos (c + full a₁ b₁ k + full a₀ b₀ k)
      = rest-≅ (is_m k r) ⨾ full-≅ _ _ _ _ k (half-sum x) (half-sum y) ⨾ eq-≅ (ap pos (sums h a₀ a₁ b₀ b₁ k)) in
      mod-≅ q _ ⨾ less_both q c (l k) (u k) (m k) lq uq (em ⨾ sym-≅ (add-≅ (add-≅ (refl-≅ (pos c)) eu) el))

  pub step-low : (k : ℕ) → k < h → l k ≡ full (cut (h + h) x) (cut (h + h) y) k % q
  unfolding a₀ a₁ b₀ b₁
  step-low k p = is-l k (omega arith) ∙ ap (λ (n : ℕ). n % q) (sym (halves k ∙ low h a₀ a₁ b₀ b₁ k p))

  pub step-mid-low : (k : ℕ) → h ≤ k → k < h + h → (l k + mid (k - h)) % q ≡ full (cut (h + h) x) (cut (h + h) y) k % q
  unfolding a₀ a₁ b₀ b₁
  step-mid-low k p r =
      same-mod some (add-≅ (rest-≅ (is-l k r)) (is-mid (k - h) (omega arith)) ⨾ eq-≅ (ap pos (sym (halves k ∙ mid-low h a₀ a₁ b₀ b₁ k p r))))

  module _ (k : ℕ) (p : h + h ≤ k) where
    abbrev upper : ℕ
    upper = k - (h + h)

    pub step-mid-high : k < h + h + h → (u upper + mid (k - h)) % q ≡ full (cut (h + h) x) (cut (h + h) y) k % q
    unfolding a₀ a₁ b₀ b₁
    step-mid-high r =
        same-mod some
        (add-≅ (rest-≅ (is-u upper (omega arith))) (is-mid (k - h) (omega arith))
        ⨾ eq-≅
        (ap pos
        (sym
        (halves k
        ∙ mid-high h a₀ a₁ b₀ b₁ (cut_out h x) (cut_out h (λ j. x (h + j))) (cut_out h y) (cut_out h (λ j. y (h + j))) k p))))

    pub step-high : h + h + h ≤ k → k < h + h + h + h → u upper ≡ full (cut (h + h) x) (cut (h + h) y) k % q
    unfolding a₀ a₁ b₀ b₁
    step-high s r =
        is-u upper (omega arith)
        ∙ ap (λ (n : ℕ). n % q)
        (sym (halves k ∙ high h a₀ a₁ b₀ b₁ (cut_out h x) (cut_out h (λ j. x (h + j))) (cut_out h y) (cut_out h (λ j. y (h + j))) k s))
