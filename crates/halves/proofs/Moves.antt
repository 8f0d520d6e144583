-- What the moves around the three products come to.
--   same            a place, by any name
--   times-ext       the full product of equal factors
--   level-law       all of one level
use Rattle.lists.proofs.Kit.{◌≡◌, ◌∙◌, sym, ap, ap₂, List, ℕ, ◌+◌, ◌*◌, ◌-◌, ◌%◌, ◌<◌, arith, zero-add, dec_lt, get_or}
use Rattle.lists.specs.Ranges.{Stored}
use Rattle.halves.specs.{Halves.q, Steps.full, Steps.cut, Steps.from, Steps.times, Steps.Product, Steps.InPart, Steps.Spread, Steps.middle, Steps.Joined}
use Rattle.halves.proofs.{Full.cut-ext, Full.full-ext, Step.step-low, Step.step-mid-low, Step.step-mid-high, Step.step-high}

pub same : (w : List ℕ) {i j : ℕ} → i ≡ j → get_or w i 0 ≡ get_or w j 0
same w e = ap (λ (n : ℕ). get_or w n 0) e

factors-ext :
    (n : ℕ) (f f' g g' : ℕ → ℕ) (k : ℕ) → ((j : ℕ) → j < n → f j ≡ f' j) → ((j : ℕ) → j < n → g j ≡ g' j) →
    full (cut n f) (cut n g) k % q ≡ full (cut n f') (cut n g') k % q
factors-ext n f f' g g' k p r = ap (λ (x : ℕ). x % q) (full-ext _ _ _ _ k (λ j l. cut-ext n f f' p j) (λ j l. cut-ext n g g' r j))

pub times-ext :
    (w w' : List ℕ) (n x y x' y' k : ℕ) → ((j : ℕ) → j < n → from w x j ≡ from w' x' j) → ((j : ℕ) → j < n → from w y j ≡ from w' y' j) →
    times w n x y k ≡ times w' n x' y' k
unfolding times
times-ext w w' n x y x' y' k p r = factors-ext n _ _ _ _ k p r

-- the three products are made from the last to the first, and each is moved out of the way of the next
module _ {h : ℕ} {w₀ w₁ w₂ w₃ w₄ w₅ w₆ w₇ w₈ : List ℕ} (s : Spread w₀ h w₁)
    (m : InPart w₁ (4 * h) h w₂) (cm : Stored 0 w₂ (10 * h) (2 * h) (from w₂ (4 * h)) w₃)
    (u : InPart w₃ (2 * h) h w₄) (cu : Stored 0 w₄ (8 * h) (2 * h) (from w₄ (2 * h)) w₅)
    (l : InPart w₅ 0 h w₆) (cb : Stored 0 w₆ (2 * h) (2 * h) (from w₆ (8 * h)) w₇) (j : Joined w₇ h w₈) where
  -- the factors stay until they are used
  kept₃ : (i : ℕ) → i < 4 * h → get_or w₃ i 0 ≡ get_or w₁ i 0
  kept₃ i p = cm.below i (omega arith) ∙ m.below i p

  kept₅ : (i : ℕ) → i < 2 * h → get_or w₅ i 0 ≡ get_or w₁ i 0
  kept₅ i p = cu.below i (omega arith) ∙ u.below i p ∙ kept₃ i (omega arith)

  abbrev a : ℕ → ℕ
  a = from w₀ 0

  abbrev b : ℕ → ℕ
  b = from w₀ (h + h)

  is-l : (k : ℕ) → k < h + h → get_or w₇ k 0 ≡ full (cut h a) (cut h b) k % q
  unfolding times
  is-l k r =
      cb.below k (omega arith)
      ∙ same w₆ (sym (zero-add k))
      ∙ l.inside k r
      ∙ factors-ext h _ _ _ _ k
      (λ i p. kept₅ (0 + i) (omega arith) ∙ same w₁ (zero-add i) ∙ s.a-low i p ∙ same w₀ (sym (zero-add i)))
      (λ i p. kept₅ (0 + h + i) (omega arith) ∙ same w₁ (omega arith) ∙ s.b-low i p ∙ same w₀ (omega arith))

  is-u : (k : ℕ) → k < h + h → get_or w₇ (2 * h + k) 0 ≡ full (cut h (λ i. a (h + i))) (cut h (λ i. b (h + i))) k % q
  unfolding times
  is-u k r =
      cb.inside k (omega arith)
      ∙ l.above (8 * h + k) (omega arith)
      ∙ cu.inside k (omega arith)
      ∙ u.inside k r
      ∙ factors-ext h _ _ _ _ k
      (λ i p. kept₃ (2 * h + i) (omega arith) ∙ s.a-high i p ∙ same w₀ (sym (zero-add (h + i))))
      (λ i p. kept₃ (2 * h + h + i) (omega arith) ∙ same w₁ (omega arith) ∙ s.b-high i p ∙ same w₀ (omega arith))

  is_m : (k : ℕ) → k < h + h → get_or w₇ (10 * h + k) 0 ≡ full (cut h (λ i. (a i + a (h + i)) % q)) (cut h (λ i. (b i + b (h + i)) % q)) k % q
  unfolding times
  is_m k r =
      cb.above (10 * h + k) (omega arith)
      ∙ l.above (10 * h + k) (omega arith)
      ∙ cu.above (10 * h + k) (omega arith)
      ∙ u.above (10 * h + k) (omega arith)
      ∙ cm.inside k (omega arith)
      ∙ m.inside k r
      ∙ factors-ext h _ _ _ _ k
      (λ i p. s.a_sum i p ∙ ap₂ (λ (x y : ℕ). (x + y) % q) (same w₀ (sym (zero-add i))) (same w₀ (sym (zero-add (h + i)))))
      (λ i p. same w₁ (omega arith) ∙ s.b-sum i p ∙ ap₂ (λ (x y : ℕ). (x + y) % q) (same w₀ (omega arith)) (same w₀ (omega arith)))

  quarter :
      (k : ℕ) → k < h + h + (h + h) → Dec (k < h) → Dec (k < h + h) → Dec (k < h + h + h) →
      get_or w₈ k 0 ≡ full (cut (h + h) a) (cut (h + h) b) k % q
  quarter k r (yes p) d e =
      j.low k p ∙ step-low q h (omega arith) a b (λ i. get_or w₇ i 0) (from w₇ (2 * h)) (from w₇ (10 * h)) is-l is-u is_m k p
  quarter k r (no p) (yes d) e =
      let i : h + (k - h) ≡ k = omega arith in
      same w₈ (sym i)
      ∙ j.mid (k - h) (omega arith)
      ∙ ap (λ (x : ℕ). (x + middle w₇ h (k - h)) % q) (same w₇ i)
      ∙ step-mid-low q h (omega arith) a b (λ i. get_or w₇ i 0) (from w₇ (2 * h)) (from w₇ (10 * h)) is-l is-u is_m k (omega arith) d
  quarter k r (no p) (no d) (yes e) =
      let i : h + (k - h) ≡ k = omega arith in
      let o : h + (k - h) ≡ 2 * h + (k - (h + h)) = omega arith in
      same w₈ (sym i)
      ∙ j.mid (k - h) (omega arith)
      ∙ ap (λ (x : ℕ). (x + middle w₇ h (k - h)) % q) (same w₇ o)
      ∙ step-mid-high q h (omega arith) a b (λ i. get_or w₇ i 0) (from w₇ (2 * h)) (from w₇ (10 * h)) is-l is-u is_m k (omega arith) e
  quarter k r (no p) (no d) (no e) =
      let o : k ≡ 2 * h + (k - (h + h)) = omega arith in
      j.high k (omega arith) (omega arith)
      ∙ same w₇ o
      ∙ step-high q h (omega arith) a b (λ i. get_or w₇ i 0) (from w₇ (2 * h)) (from w₇ (10 * h)) is-l is-u is_m k (omega arith) (omega arith) (omega arith)

  pub level-law : Product w₀ (h + h) w₈
  unfolding times
  level-law =
      record {
        long = j.long ∙ cb.long ∙ l.long ∙ cu.long ∙ u.long ∙ cm.long ∙ m.long ∙ s.long;
        at = λ k r. quarter k r (dec_lt k h) (dec_lt k (h + h)) (dec_lt k (h + h + h));
      }
