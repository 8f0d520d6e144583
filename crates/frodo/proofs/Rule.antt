-- The initiator's rule, for every interval that is a multiple of 4: what `specs/Shown.antt` states.
--   hint-below   a hint is 0 or 1
--   inner        how many half intervals there are
--   reach        under either hint some z is at most a quarter of the interval from w
--   key-near     so every nearest z has the key that the formula gives
--   chosen-nearest, peer-is   the search finds a nearest one, so the initiator's key is the formula's
--   quarter      I = 4 * t, over which all this is stated
--   no_tie, formula, agreement
use Rattle.lists.proofs.Kit.{sym, ap, ◌∙◌, ℕ, zero, suc, ℕ_discrete, dec_lt, le_trans, mul-le-mul_right, arith, eqb}
use Rattle.std.proofs.Common.{◌≡◌, ◌+◌, ◌*◌, ◌-◌, ◌/◌, ◌%◌, ◌^◌, ◌≤◌, ◌<◌}
use Rattle.lists.proofs.Kit.{pow_pos}
use native.Mathlib.Nat.{lt_of_mul-lt-mul_right}
use Rattle.numbers.specs.{Congruence.Close, Congruence.direct, Congruence.over, Congruence.under, Congruence.Nearest, Least.nearest_to}
use Rattle.numbers.proofs.{Circle.apart-close, Circle.close-apart, Arc.nearest-of}
use Rattle.frodo.specs.Shown.{NoTie, formula_of, Formula, Agreement}
use Rattle.frodo.specs.Rounding.{hint_of, key_of, peer_of}
use Rattle.frodo.proofs.Margin.{Half, half_of, hint-half, margin}

pub hint-below : (I v : ℕ) → hint_of I v < 2
unfolding hint_of
hint-below I v = omega arith

-- some z with the hint h is at most d from w
record Reach (I B h w d : ℕ) : Type 0 where
  z : ℕ
  below : z < I * 2 ^ B
  hinted : hint_of I z ≡ h
  near : Close (I * 2 ^ B) d z w

module _ (t : ℕ) (p : 0 < t) (B w : ℕ) (hw : w < 4 * t * 2 ^ B) where
  -- z by its half and its place there
  at : (z s r h : ℕ) → z ≡ 2 * (s * t) + r → r < 2 * t → s % 2 ≡ h → z < 4 * t * 2 ^ B → Close (4 * t * 2 ^ B) t z w → Reach (4 * t) B h w t
  at z s r h e i f b d = record { z = z; below = b; hinted = hint-half t p (record { place = e; inside = i }) ∙ f; near = d }

  -- around the circle, the last place of the half before that of w
  before : (s r h : ℕ) → Half t w s r → r < t → (s + 1) % 2 ≡ h → Reach (4 * t) B h w t
  before zero r h c l e =
      let n : suc (2 * 2 ^ B - 1) * t ≡ 2 * 2 ^ B * t = ap (λ (k : ℕ). k * t) (omega (arith, pow_pos B)) in
      at (4 * t * 2 ^ B - 1) (2 * 2 ^ B - 1) (2 * t - 1) h (omega arith) (omega arith) (omega (arith, pow_pos B)) (omega arith) (under (omega arith))
  before (suc s) r h c l e =
      at (2 * (suc s * t) - 1) s (2 * t - 1) h (omega arith) (omega arith) (omega arith) (omega arith) (direct (omega arith) (omega arith))

  -- and the first place of the half after it
  pub inner : {s r : ℕ} → Half t w s r → s < 2 * 2 ^ B
  inner c = lt_of_mul-lt-mul_right t (omega arith)

  after : (s r h : ℕ) → Half t w s r → t ≤ r → (s + 1) % 2 ≡ h → Reach (4 * t) B h w t
  after s r h c l e = go (dec_lt (suc s) (2 * 2 ^ B))
    where
      go : Dec (suc s < 2 * 2 ^ B) → Reach (4 * t) B h w t
      go (yes i) =
          let n : suc (suc s) * t ≤ 2 * 2 ^ B * t = mul-le-mul_right t i in
          at (2 * (suc s * t)) (suc s) 0 h (omega arith) (omega arith) (omega arith) (omega arith) (direct (omega arith) (omega arith))
      go (no i) =
          let n : 2 * 2 ^ B * t ≤ suc s * t = mul-le-mul_right t (omega arith) in
          at 0 0 0 h (omega arith) (omega arith) (omega (arith, inner c)) (omega arith) (over (omega arith))

  other : (s r h : ℕ) → Half t w s r → (s + 1) % 2 ≡ h → Reach (4 * t) B h w t
  other s r h c e = go (dec_lt r t)
    where
      go : Dec (r < t) → Reach (4 * t) B h w t
      go (yes l) = before s r h c l e
      go (no l) = after s r h c (omega arith) e

  reach : (h : ℕ) → h < 2 → Reach (4 * t) B h w t
  reach h l = go (ℕ_discrete (hint_of (4 * t) w) h)
    where
      go : Dec (hint_of (4 * t) w ≡ h) → Reach (4 * t) B h w t
      go (yes e) = record { z = w; below = hw; hinted = e; near = direct (omega arith) (omega arith) }
      go (no d) = let c = half_of t p w in other _ _ h c (omega (arith, hint-half t p c))

  -- whichever z is nearest, its key is the formula's
  key-near : (h z : ℕ) → h < 2 → Nearest (4 * t * 2 ^ B) (λ y. hint_of (4 * t) y ≡ h) w z → key_of (4 * t) B z ≡ formula_of (4 * t) B h w
  key-near h z l n =
      let c = reach h l in
      let d = le_trans (n.nearest c.z c.below c.hinted) (close-apart _ _ _ c.below hw c.near) in
      sym (margin t p B z w n.below hw (apart-close _ _ _ n.below hw d)) ∙ ap (λ (g : ℕ). formula_of (4 * t) B g w) n.marked

  -- the search finds a nearest one
  unfoldable pub chosen : (h : ℕ) → ℕ
  chosen h = nearest_to (4 * t * 2 ^ B) (λ z. eqb (hint_of (4 * t) z) h) w

  pub chosen-nearest : (h : ℕ) → h < 2 → Nearest (4 * t * 2 ^ B) (λ z. hint_of (4 * t) z ≡ h) w (chosen h)
  unfolding chosen
  chosen-nearest h l =
      let c = reach h l in nearest-of (4 * t * 2 ^ B) (hint_of (4 * t)) h w c.z c.below c.hinted

  pub peer-is : (h : ℕ) → h < 2 → peer_of (4 * t) B h w ≡ formula_of (4 * t) B h w
  unfolding peer_of chosen
  peer-is h l = key-near h (chosen h) l (chosen-nearest h l)

-- ---- for every interval that is a multiple of 4

pub quarter : (I : ℕ) → I % 4 ≡ 0 → I ≡ 4 * (I / 4)
quarter I e = omega arith

pub no_tie : NoTie
no_tie I B h w o e =
    let p : 0 < I / 4 = omega arith in
    rw (quarter I e)
    (λ hw l.
    record {
      z = chosen (I / 4) p B w hw h;
      found = chosen-nearest (I / 4) p B w hw h l;
      only = λ y n. key-near (I / 4) p B w hw h y l n ∙ sym (peer-is (I / 4) p B w hw h l);
    })

pub formula : Formula
formula I B h w o e = let p : 0 < I / 4 = omega arith in rw (quarter I e) (λ hw l. peer-is (I / 4) p B w hw h l)

pub agreement : Agreement
agreement I B v w o e =
    let p : 0 < I / 4 = omega arith in
    rw (quarter I e)
    (λ hv hw d. peer-is (I / 4) p B w hw _ (hint-below _ v) ∙ margin (I / 4) p B v w hv hw (apart-close _ _ _ hv hw (omega arith)))
