-- The slack used: what `specs/Shown.antt` states.
--   arc        where w has the other hint, it stands in a half interval of numbers without the given one, and both neighbours have it
--   in-half    there the formula's remainder is the place of w in that half; elsewhere it is behind it
--   Case, case-of   the two cases, with the slack and the formula in each
--   slack-apart, slack-least, slack_formula, slack-none, slack-bound
use Rattle.lists.proofs.Kit.{refl, ap, ◌∙◌, Bool, true, ℕ, zero, suc, min, ℕ_discrete, dec_lt, mul-le-mul_right}
use Rattle.std.proofs.Common.{◌≡◌, ◌+◌, ◌*◌, ◌-◌, ◌/◌, ◌%◌, ◌^◌, ◌≤◌, ◌<◌}
use Rattle.lists.proofs.Kit.{arith, eqb, pow_pos, eqb-true, eq-eqb}
use Rattle.numbers.specs.{Congruence.LeastGap, Least.gap_to}
use Rattle.numbers.proofs.{Natural.rest-is, Arc.Arc, Arc.away-arc, Arc.away-at-most, Arc.away-none}
use Rattle.frodo.specs.Shown.{margin, SlackLeast, past, SlackFormula, SlackNone, SlackBound, SlackApart}
use Rattle.frodo.specs.Rounding.{hint_of, slack_of}
use Rattle.frodo.proofs.{Margin.Half, Margin.half_of, Margin.hint-half, Rule.inner, Rule.chosen, Rule.chosen-nearest, Rule.quarter}

pub slack-apart : SlackApart
unfolding slack_of
slack-apart I B v w l = away-at-most (I * 2 ^ B) _ w v l (eq-eqb (hint_of I v) (hint_of I v) refl)

module _ (t : ℕ) (p : 0 < t) (B w : ℕ) (hw : w < 4 * t * 2 ^ B) where
  mark : ℕ → ℕ → Bool
  mark h z = eqb (hint_of (4 * t) z) h

  -- z by its half and its place there
  marked : {s r : ℕ} (z h : ℕ) → Half t z s r → s % 2 ≡ h → mark h z ≡ true
  unfolding mark
  marked z h c e = eq-eqb (hint_of (4 * t) z) h (hint-half t p c ∙ e)

  end : {s : ℕ} → s < 2 * 2 ^ B → 2 * (suc s * t) ≡ 4 * t * 2 ^ B → suc s ≡ 2 * 2 ^ B
  end {s} i e = go (dec_lt (suc s) (2 * 2 ^ B))
    where
      go : Dec (suc s < 2 * 2 ^ B) → suc s ≡ 2 * 2 ^ B
      go (yes l) = let n : suc (suc s) * t ≤ 2 * 2 ^ B * t = mul-le-mul_right t l in absurd (omega arith)
      go (no l) = omega arith

  before : (s h : ℕ) → (s + 1) % 2 ≡ h → 0 < 2 * (s * t) → mark h (2 * (s * t) - 1) ≡ true
  before zero h e o = absurd (omega arith)
  before (suc s) h e o =
      marked {s = s} {r = 2 * t - 1} (2 * (suc s * t) - 1) h (record { place = omega arith; inside = omega arith }) (omega arith)

  around : (s h : ℕ) → (s + 1) % 2 ≡ h → 2 * (s * t) ≡ 0 → mark h (4 * t * 2 ^ B - 1) ≡ true
  around zero h e o =
      let n : suc (2 * 2 ^ B - 1) * t ≡ 2 * 2 ^ B * t = ap (λ (k : ℕ). k * t) (omega (arith, pow_pos B)) in
      marked {s = 2 * 2 ^ B - 1} {r = 2 * t - 1} (4 * t * 2 ^ B - 1) h (record { place = omega arith; inside = omega arith }) (omega (arith, pow_pos B))
  around (suc s) h e o = absurd (omega arith)

  arc : {s r : ℕ} (h : ℕ) → Half t w s r → (s + 1) % 2 ≡ h → Arc (4 * t * 2 ^ B) (mark h) w (2 * (s * t)) (2 * (suc s * t))
  unfolding mark
  arc {s} {r} h c e =
      let i = inner t p B w hw c in
      let n : suc s * t ≤ 2 * 2 ^ B * t = mul-le-mul_right t i in
      record {
        from = omega (arith, c.place);
        to = omega (arith, c.place, c.inside);
        room = omega arith;
        bare = bare;
        ahead = λ l. marked {s = suc s} {r = 0} _ h (record { place = omega arith; inside = omega arith }) (omega arith);
        first = λ f. let g = end i f in marked {s = 0} {r = 0} 0 h (record { place = omega arith; inside = omega arith }) (omega arith);
        behind = before s h e;
        last = around s h e;
      }
    where
      bare : (z : ℕ) → 2 * (s * t) ≤ z → z < 2 * (suc s * t) → mark h z ≡ true → ⊥
      bare z a b f =
          let k : Half t z s (z - 2 * (s * t)) = record { place = omega arith; inside = omega arith } in
          omega (arith, hint-half t p k, eqb-true (hint_of (4 * t) z) h f)

  -- the formula's remainder, g being 1 - h
  in-half : (s r g k : ℕ) → Half t w s r → 2 * k ≡ s + g → (w + g * (2 * t)) % (4 * t) ≡ r
  in-half s r g k c e =
      let f : 2 * (k * t) ≡ s * t + g * t = omega (arith, ap (λ (x : ℕ). x * t) e) in
      rest-is _ r k (4 * t) (omega (arith, c.place)) (omega (arith, c.inside))

  past-half : (s r g k : ℕ) → Half t w s r → 2 * k + 1 ≡ s + g → (w + g * (2 * t)) % (4 * t) ≡ r + 2 * t
  past-half s r g k c e =
      let f : 2 * (k * t) + t ≡ s * t + g * t = omega (arith, ap (λ (x : ℕ). x * t) e) in
      rest-is _ (r + 2 * t) k (4 * t) (omega (arith, c.place)) (omega (arith, c.inside))

  half : 4 * t / 2 ≡ 2 * t
  half = omega arith

  data Case (h : ℕ) : Type 0 where
    has : hint_of (4 * t) w ≡ h → slack_of (4 * t) B h w ≡ 0 → 2 * t ≤ past (4 * t) h w → Case h
    lacks : (hint_of (4 * t) w ≡ h → ⊥) → (r : ℕ) → r < 2 * t → slack_of (4 * t) B h w ≡ min (r + 1) (2 * t - r) → past (4 * t) h w ≡ r → Case h

  case-of : (h : ℕ) → h < 2 → Case h
  unfolding slack_of mark
  case-of h l = go (ℕ_discrete (hint_of (4 * t) w) h)
    where
      go : Dec (hint_of (4 * t) w ≡ h) → Case h
      go (yes e) =
          let s = 2 * w / (4 * t) in
          let c = half_of t p w in
          let k : 2 * ((s + (1 - h)) / 2) + 1 ≡ s + (1 - h) = omega (arith, hint-half t p c) in
          let y = past-half s _ (1 - h) _ c k in
          has e (away-none _ _ w hw (eq-eqb _ _ e)) (rw half (omega (arith, y)))
      go (no d) =
          let s = 2 * w / (4 * t) in
          let c = half_of t p w in
          let o : (s + 1) % 2 ≡ h = omega (arith, hint-half t p c) in
          let k : 2 * ((s + (1 - h)) / 2) ≡ s + (1 - h) = omega arith in
          lacks d _ c.inside (away-arc _ _ w (arc h c o) ∙ omega (arith, c.place, c.inside)) (rw half (in-half s _ (1 - h) _ c k))

  formula-at : (h : ℕ) → Case h → slack_of (4 * t) B h w ≡ min (past (4 * t) h w + 1) (4 * t / 2 - past (4 * t) h w)
  formula-at h (has e z y) = omega arith
  formula-at h (lacks d r i z y) = omega arith

  none-at : (h : ℕ) → Case h → slack_of (4 * t) B h w ≡ 0 → hint_of (4 * t) w ≡ h
  none-at h (has e z y) o = e
  none-at h (lacks d r i z y) o = absurd (omega arith)

  bound_at : (h : ℕ) → Case h → slack_of (4 * t) B h w ≤ margin (4 * t)
  bound_at h (has e z y) = omega arith
  bound_at h (lacks d r i z y) = omega arith

  least_at : (h : ℕ) → h < 2 → LeastGap (4 * t * 2 ^ B) (λ z. hint_of (4 * t) z ≡ h) w (slack_of (4 * t) B h w)
  unfolding slack_of gap_to chosen
  least_at h l = record { z = chosen t p B w hw h; found = chosen-nearest t p B w hw h l; reached = refl }

-- ---- for every interval that is a multiple of 4

pub slack-least : SlackLeast
slack-least I B h w o e = let p : 0 < I / 4 = omega arith in rw (quarter I e) (λ hw l. least_at (I / 4) p B w hw h l)

pub slack_formula : SlackFormula
slack_formula I B h w o e =
    let p : 0 < I / 4 = omega arith in rw (quarter I e) (λ hw l. formula-at (I / 4) p B w hw h (case-of (I / 4) p B w hw h l))

pub slack-none : SlackNone
unfolding slack_of
slack-none I B h w o e hw l = (forth hw l, λ f. away-none (I * 2 ^ B) _ w hw (eq-eqb (hint_of I w) h f))
  where
    forth : w < I * 2 ^ B → h < 2 → slack_of I B h w ≡ 0 → hint_of I w ≡ h
    forth =
        let p : 0 < I / 4 = omega arith in rw (quarter I e) (λ hw l. none-at (I / 4) p B w hw h (case-of (I / 4) p B w hw h l))

pub slack-bound : SlackBound
slack-bound I B h w o e =
    let p : 0 < I / 4 = omega arith in rw (quarter I e) (λ hw l. bound_at (I / 4) p B w hw h (case-of (I / 4) p B w hw h l))
