-- The product as the code forms it: the secret, backwards, against a window of [-a | a]. Once over n and q.
--   product-window     the product is the secret, backwards, times the window of [-a | a] behind entry k
--   laid-window        [-a | a] without its first entry, from -a without its own and a
--   all-ready          with the secret, backwards, it is what the sums ask
--   mixed-made         and these sums, reduced with the noise, are as + e
--   mixed-bare         and us, where the noise is 0
use Rattle.lists.proofs.Kit.{◌≡◌, ◌∙◌, sym, ap, subst, List, ℕ, suc, ◌+◌, ◌-◌, ◌<◌, ◌≤◌, arith, dec_le, dec_lt, lt-ltb, le-ltb, length, get_or, ℤ, pos, neg_ℤ}
use Rattle.lists.proofs.Kit.{nat_abs, ◌+ℤ◌, ◌*ℤ◌, *ℤ_comm, +ℤ_idr}
use Rattle.numbers.specs.{Residue.residue, Congruence.◌≅⟨◌⟩◌}
use Rattle.numbers.proofs.Congruence.{eq-≅, refl-≅, ◌⨾◌, add-≅, same-residue, residue-lt, residue-≅}
use Rattle.numbers.proofs.{Sums.whole, Sums.sum-ext, Sums.sum-reverse, Size.abs-zero}
use Rattle.lists.specs.{Entries.tab, Entries.nums, Entries.ints, Ranges.Below, Ranges.Within, Ranges.Stored}
use Rattle.lists.proofs.{Entries.tab-ext, Parts.part, Stored.front_at}
use Rattle.polynomial.specs.Product.{turn, product, mixed, bare}
use Rattle.polynomial.specs.Steps.{Fit, both, dot, slide, Ready, Made, Windowed}
use Rattle.polynomial.proofs.{Turn.turn_in, Turn.turn-over, Laws.product-comm, Three.slide-≅, Stores.ints-is, Stores.rest-long, Stores.part-entry}

-- [-a | a]
both-low : (n : ℕ) (a : ℕ → ℤ) (i : ℕ) → i < n → both n a i ≡ neg_ℤ (a i)
unfolding both
both-low n a i h = rw (lt-ltb i n h)

both_high : (n : ℕ) (a : ℕ → ℤ) (i : ℕ) → n ≤ i → both n a i ≡ a (i - n)
unfolding both
both_high n a i h = rw (le-ltb i n h)

turn-both : (n : ℕ) (a : ℕ → ℤ) (u k : ℕ) → u < n → k < n → turn n a u k ≡ both n a (n + k - u)
turn-both n a u k hu hk = go (dec_le u k)
  where
    go : Dec (u ≤ k) → turn n a u k ≡ both n a (n + k - u)
    go (yes p) = turn_in n a u k p ∙ ap a (omega arith) ∙ sym (both_high n a (n + k - u) (omega arith))
    go (no p) = turn-over n a u k (omega arith) ∙ sym (both-low n a (n + k - u) (omega arith))

pub product-window : (n : ℕ) (a s : ℕ → ℤ) (k : ℕ) → k < n → product n a s k ≡ slide n (λ i. both n a (i + 1)) (λ j. s (n - (j + 1))) k
unfolding product slide dot
product-window n a s k h =
    product-comm n a s k h
    ∙ sum-reverse whole n _
    ∙ sum-ext whole n _ _ (λ j p.
    let e : n - suc j ≡ n - (j + 1) = omega arith in
    let f : n + k - (n - (j + 1)) ≡ k + j + 1 = omega arith in
    ap (λ (u : ℕ). s u *ℤ turn n a u k) e
    ∙ ap (λ (t : ℤ). s (n - (j + 1)) *ℤ t) (turn-both n a (n - (j + 1)) k (omega arith) h ∙ ap (both n a) f)
    ∙ *ℤ_comm (s (n - (j + 1))) (both n a (k + j + 1)))

-- ---- the window

pub laid-window :
    {q : ℕ} (a d d₁ d₂ : List ℕ) → 0 < q → 0 < length a → length a + length a ≤ length d → Below q a → Below q d →
    Stored 0 d 0 (length (part a 1)) (λ i. residue q (neg_ℤ (nums (part a 1) i))) d₁ → Stored 0 d₁ (length a - 1) (length a) (λ i. get_or a i 0) d₂ → Windowed q (length a) a d₂
unfolding nums
laid-window {q} a d d₁ d₂ hq some l ba bd s₁ s₂ = record { at = λ i p. place i p (dec_lt i (n - 1)); below = λ i p. small i (dec_lt i (n - 1)) (dec_lt i (n - 1 + n)) }
  where
    n : ℕ
    n = length a

    front : (i : ℕ) → i < n - 1 → get_or d₂ i 0 ≡ residue q (neg_ℤ (pos (get_or a (i + 1) 0)))
    front i p =
        let e : 1 + i ≡ i + 1 = omega arith in
        s₂.below i p
        ∙ front_at s₁ i (omega (arith, rest-long 1 a))
        ∙ ap (λ (x : ℕ). residue q (neg_ℤ (pos x))) (part-entry 0 1 a i ∙ ap (λ (k : ℕ). get_or a k 0) e)

    behind : (i : ℕ) → n - 1 ≤ i → i < n - 1 + n → get_or d₂ i 0 ≡ get_or a (i - (n - 1)) 0
    behind i p r =
        let e : n - 1 + (i - (n - 1)) ≡ i = omega arith in
        ap (λ (k : ℕ). get_or d₂ k 0) (sym e) ∙ s₂.inside (i - (n - 1)) (omega arith)

    last : (i : ℕ) → n - 1 + n ≤ i → get_or d₂ i 0 ≡ get_or d i 0
    last i p = s₂.above i p ∙ s₁.above i (omega (arith, rest-long 1 a))

    place : (i : ℕ) → i + 1 < n + n → Dec (i < n - 1) → nums d₂ i ≅⟨ q ⟩ both n (nums a) (i + 1)
    place i p (yes r) =
        eq-≅ (ap pos (front i r)) ⨾ residue-≅ q _ hq ⨾ eq-≅ (sym (both-low n (nums a) (i + 1) (omega arith)))
    place i p (no r) =
        let e : i - (n - 1) ≡ i + 1 - n = omega arith in
        eq-≅ (ap pos (behind i (omega arith) (omega arith)) ∙ ap (nums a) e ∙ sym (both_high n (nums a) (i + 1) (omega arith)))

    small : (i : ℕ) → Dec (i < n - 1) → Dec (i < n - 1 + n) → get_or d₂ i 0 < q
    small i (yes r) t = rw (front i r) (residue-lt q _ hq)
    small i (no r) (yes t) = rw (behind i (omega arith) t) (ba.below (i - (n - 1)))
    small i (no r) (no t) = rw (last i (omega arith)) (bd.below i)

-- ---- what the code computes

module _ {q n : ℕ} {a d : List ℕ} {s t t' : List ℤ} (f : Fit q n a s) (w : Windowed q (length a) a d) (b : Stored (pos 0) t 0 (length s) (λ j. ints s (length s - (j + 1))) t') where
  window : Windowed q n a d
  window = subst (λ (k : ℕ). Windowed q k a d) f.a-long w

  backwards : (j : ℕ) → j < n → ints t' j ≡ ints s (n - (j + 1))
  unfolding ints
  backwards j p = front_at b j (omega (arith, f.s-long)) ∙ ap (λ (k : ℕ). get_or s (k - (j + 1)) (pos 0)) f.s-long

  small : (j : ℕ) → j < n → nat_abs (ints t' j) ≤ 51
  small j p = rw (backwards j p, ints-is s (n - (j + 1))) (f.s-within.within (n - (j + 1)))

  pub all-ready : Ready q n d t'
  all-ready =
      record {
        some = f.some;
        modulus = f.room;
        few = f.few;
        below = window.below;
        secrets = record { size = 51; room = omega (arith, f.few); within = small };
      }

  pub mixed-made : (e o : List ℤ) → Made q n (nums d) (ints t') o → tab n (λ k. residue q (ints o k +ℤ ints e k)) ≡ mixed q n a s e
  unfolding mixed
  mixed-made e o m =
      tab-ext n _ _ (λ k p.
      same-residue f.some
      (add-≅
      (m.at k p
      ⨾ slide-≅ n (nums d) (λ i. both n (nums a) (i + 1)) (ints t') (λ j. ints s (n - (j + 1))) k p window.at backwards
      ⨾ eq-≅ (sym (product-window n (nums a) (ints s) k p)))
      (refl-≅ (ints e k))))

-- no noise is noise of size 0
pub mixed-bare : (q n : ℕ) (u : List ℕ) (s e : List ℤ) → Within 0 e → mixed q n u s e ≡ bare q n u s
unfolding mixed bare ints
mixed-bare q n u s e h =
    tab-ext n _ _ (λ k l.
    ap (λ (t : ℤ). residue q (product n (nums u) (ints s) k +ℤ t)) (abs-zero _ (h.within k)) ∙ ap (residue q) (+ℤ_idr _))
