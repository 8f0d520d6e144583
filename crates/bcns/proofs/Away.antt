-- The slack used: what `specs/Shown.antt` states.
--   marked, bare   a z that has the hint, and one that has not
--   arc-first, arc-second, arc-third, arc-fourth   where 2w has the other hint, its region is a stretch of numbers without the given one, and both neighbours have it
--   Case, case-of   the two cases, with the slack and the formula in each
--   slack-apart, slack-least, slack_formula, slack-none, slack-bound
use Rattle.lists.proofs.Kit.{refl, sym, ◌∙◌, Bool, true, ℕ, min, ℕ_discrete, le_refl, arith, eqb, eqb-true, eq-eqb}
use Rattle.std.proofs.Common.{◌≡◌, ◌+◌, ◌*◌, ◌-◌, ◌%◌, ◌≤◌, ◌<◌}
use Rattle.numbers.specs.{Residue.apart, Least.nearest_to, Least.gap_to}
use Rattle.numbers.proofs.Circle.{apart-close, close-apart, close-swap, close-join, close-scale}
use Rattle.numbers.proofs.{Natural.rest-is, Arc.Arc, Arc.away-arc, Arc.away-at-most, Arc.away-none, Arc.nearest-of}
use Rattle.bcns.specs.Shown.{most_slack, SlackLeast, past, SlackFormula, SlackNone, SlackBound, SlackApart}
use Rattle.bcns.specs.Rounding.{q, doubled, hint_of, slack_of}
use Rattle.bcns.proofs.Regions.{hint-is, Region, first, second, third, fourth, region}
use Rattle.bcns.proofs.Margin.{doubled-below, doubled-near}

pub slack-apart : SlackApart
unfolding slack_of
slack-apart c v w hv hw =
    let z = doubled c v in
    let u = doubled-below c v in
    let f = close-scale 2 (apart-close q v w hv hw (le_refl (apart q v w))) in
    let g = close-join u (omega arith) (omega arith) (close-swap (doubled-near c v hv)) f in
    let a = away-at-most (2 * q) (λ y. eqb (hint_of y) (hint_of z)) (2 * w) z u (eq-eqb (hint_of z) (hint_of z) refl) in
    let b = close-apart (2 * q) z (2 * w) u (omega arith) g in
    omega arith

mark : ℕ → ℕ → Bool
mark h z = eqb (hint_of z) h

-- z between multiples of q/2
marked : (h z k : ℕ) → k * q ≤ 2 * z → 2 * z < (k + 1) * q → k % 2 ≡ h → mark h z ≡ true
unfolding mark
marked h z k a b e = eq-eqb (hint_of z) h (hint-is z k a b ∙ e)

bare : (h z k : ℕ) → k * q ≤ 2 * z → 2 * z < (k + 1) * q → (k % 2 ≡ h → ⊥) → mark h z ≡ true → ⊥
unfolding mark
bare h z k a b d e = d (sym (hint-is z k a b) ∙ eqb-true (hint_of z) h e)

module _ (x : ℕ) where
  arc-first : x < 2147483648 → Arc (2 * q) (mark 1) x 0 2147483648
  arc-first l =
      record {
        from = omega arith;
        to = l;
        room = omega arith;
        bare = λ z a b. bare 1 z 0 (omega arith) (omega arith) (λ e. omega arith);
        ahead = λ i. marked 1 2147483648 1 (omega arith) (omega arith) refl;
        first = λ i. absurd (omega arith);
        behind = λ i. absurd (omega arith);
        last = λ i. marked 1 (2 * q - 1) 3 (omega arith) (omega arith) refl;
      }

  arc-second : 2147483648 ≤ x → x < q → Arc (2 * q) (mark 0) x 2147483648 q
  arc-second k l =
      record {
        from = k;
        to = l;
        room = omega arith;
        bare = λ z a b. bare 0 z 1 (omega arith) (omega arith) (λ e. omega arith);
        ahead = λ i. marked 0 q 2 (omega arith) (omega arith) refl;
        first = λ i. absurd (omega arith);
        behind = λ i. marked 0 2147483647 0 (omega arith) (omega arith) refl;
        last = λ i. absurd (omega arith);
      }

  arc-third : q ≤ x → x < 6442450943 → Arc (2 * q) (mark 1) x q 6442450943
  arc-third k l =
      record {
        from = k;
        to = l;
        room = omega arith;
        bare = λ z a b. bare 1 z 2 (omega arith) (omega arith) (λ e. omega arith);
        ahead = λ i. marked 1 6442450943 3 (omega arith) (omega arith) refl;
        first = λ i. absurd (omega arith);
        behind = λ i. marked 1 4294967294 1 (omega arith) (omega arith) refl;
        last = λ i. absurd (omega arith);
      }

  arc-fourth : 6442450943 ≤ x → x < 2 * q → Arc (2 * q) (mark 0) x 6442450943 (2 * q)
  arc-fourth k l =
      record {
        from = k;
        to = l;
        room = omega arith;
        bare = λ z a b. bare 0 z 3 (omega arith) (omega arith) (λ e. omega arith);
        ahead = λ i. absurd (omega arith);
        first = λ i. marked 0 0 0 (omega arith) (omega arith) refl;
        behind = λ i. marked 0 6442450942 2 (omega arith) (omega arith) refl;
        last = λ i. absurd (omega arith);
      }

module _ (w : ℕ) (hw : w < q) where
  -- r is the place of 2w in its region
  data Case (h : ℕ) : Type 0 where
    has : hint_of (2 * w) ≡ h → slack_of h w ≡ 0 → 2147483647 + h ≤ past h w → Case h
    lacks : (hint_of (2 * w) ≡ h → ⊥) → (r : ℕ) → r < 2147483647 + h → slack_of h w ≡ min (r + 1) (2147483647 + h - r) → past h w ≡ r → Case h

  there : (h : ℕ) → hint_of (2 * w) ≡ h → slack_of h w ≡ 0
  unfolding slack_of
  there h e = away-none (2 * q) _ (2 * w) (omega arith) (eq-eqb (hint_of (2 * w)) h e)

  away : {lo hi : ℕ} (h : ℕ) → Arc (2 * q) (mark h) (2 * w) lo hi → slack_of h w ≡ min (2 * w + 1 - lo) (hi - 2 * w)
  unfolding slack_of mark
  away h a = away-arc (2 * q) _ (2 * w) a

  zero-case : Region (2 * w) → Case 0
  zero-case (first a e f) = let y : past 0 w ≡ 2 * w + 2147483647 = rest-is _ _ 0 q (omega arith) (omega arith) in has e (there 0 e) (omega arith)
  zero-case (second a b e f) =
      lacks (λ o. omega arith) (2 * w - 2147483648) (omega arith) (away 0 (arc-second (2 * w) a b) ∙ omega arith) (rest-is _ _ 1 q (omega arith) (omega arith))
  zero-case (third a b e f) = let y : past 0 w ≡ 2 * w - 2147483648 = rest-is _ _ 1 q (omega arith) (omega arith) in has e (there 0 e) (omega arith)
  zero-case (fourth a e f) =
      lacks (λ o. omega arith) (2 * w - 6442450943) (omega arith) (away 0 (arc-fourth (2 * w) a (omega arith)) ∙ omega arith) (rest-is _ _ 2 q (omega arith) (omega arith))

  one-case : Region (2 * w) → Case 1
  one-case (first a e f) =
      lacks (λ o. omega arith) (2 * w) (omega arith) (away 1 (arc-first (2 * w) a) ∙ omega arith) (rest-is _ _ 0 q (omega arith) (omega arith))
  one-case (second a b e f) = let y : past 1 w ≡ 2 * w = rest-is _ _ 0 q (omega arith) (omega arith) in has e (there 1 e) (omega arith)
  one-case (third a b e f) =
      lacks (λ o. omega arith) (2 * w - q) (omega arith) (away 1 (arc-third (2 * w) a b) ∙ omega arith) (rest-is _ _ 1 q (omega arith) (omega arith))
  one-case (fourth a e f) = let y : past 1 w ≡ 2 * w - q = rest-is _ _ 1 q (omega arith) (omega arith) in has e (there 1 e) (omega arith)

  case-of : (h : ℕ) → h < 2 → Case h
  case-of h l = go (ℕ_discrete h 0)
    where
      go : Dec (h ≡ 0) → Case h
      go (yes e) = rw e (zero-case (region (2 * w) (omega arith)))
      go (no d) = let e : h ≡ 1 = omega arith in rw e (one-case (region (2 * w) (omega arith)))

  formula-at : (h : ℕ) → Case h → slack_of h w ≡ min (past h w + 1) (2147483647 + h - past h w)
  formula-at h (has e z y) = omega arith
  formula-at h (lacks d r i z y) = omega arith

  none-at : (h : ℕ) → Case h → slack_of h w ≡ 0 → hint_of (2 * w) ≡ h
  none-at h (has e z y) o = e
  none-at h (lacks d r i z y) o = absurd (omega arith)

  bound_at : (h : ℕ) → h < 2 → Case h → slack_of h w ≤ most_slack
  bound_at h l (has e z y) = omega arith
  bound_at h l (lacks d r i z y) = omega arith

pub slack_formula : SlackFormula
slack_formula h w hw l = formula-at w hw h (case-of w hw h l)

pub slack-none : SlackNone
slack-none h w hw l = (none-at w hw h (case-of w hw h l), there w hw h)

pub slack-bound : SlackBound
slack-bound h w hw l = bound_at w hw h l (case-of w hw h l)

pub slack-least : SlackLeast
unfolding slack_of gap_to
slack-least h w hw l =
    -- a z with either hint
    let z = h * 2147483648 in
    let e : hint_of z ≡ h = hint-is z h (omega arith) (omega arith) ∙ omega arith in
    record { z = nearest_to (2 * q) (λ z. eqb (hint_of z) h) (2 * w); found = nearest-of (2 * q) hint_of h (2 * w) z (omega arith) e; reached = refl }
