-- The loop over a trace.
--   Going, going-none, going_more, going-many, going-other, going-all   before, at each turn, and at its three ends
--   pair-known   what two lines gave: scheme 0 to 5, a slack of ten digits
use Rattle.lists.proofs.Kit.{◌∙◌, sym, ap, List, ℕ, suc, arith, length, drop, drop_of_length-le, length-drop}
use Rattle.std.proofs.Common.{Some, ◌≡◌, ◌+◌, ◌-◌, ◌≤◌, ◌<◌}
use Rattle.text.specs.Text.{line, refusal_name}
use Rattle.trace.specs.Steps.{Tally, Reads, summary_of, Held, Pair}
use Rattle.trace.specs.Trace.{two, neither, two_in, recorded_in, answered}
use Rattle.trace.proofs.Reading.{two_back}
use Rattle.trace.proofs.Tallying.{text_after, run_end, run-over, run_more, run-other, answer-is, zeros, put, held_none, held_more}

-- what two lines gave
pub pair-known : (s : List ℕ) (at : ℕ) (p : Pair) → two p.scheme p.slack (drop p.end s) ≡ two_in (drop at s) → (p.scheme ≤ 5) × (p.slack < 10000000000)
pair-known s at p e = let l = two_back (drop at s) (sym e) in (l.scheme, l.slack)

-- the trace s was read up to at, n exchanges, with the counters ts
pub record Going (s : List ℕ) (ts : List Tally) (at n : ℕ) : Type 0 where
  pub left : answered s ≡ text_after ts (recorded_in (2048 - n) (drop at s))
  pub within : at ≤ length s
  pub held : Held n ts

pub going-none : (s : List ℕ) → Going s zeros 0 0
going-none s = record { left = sym (answer-is s); within = omega arith; held = held_none }

module _ {s : List ℕ} {ts : List Tally} {at n : ℕ} (g : Going s ts at n) where
  pub going-all : length s ≤ at → summary_of ts ≡ answered s
  going-all l = sym (g.left ∙ rw (drop_of_length-le s l) (run_end (2048 - n) ts))

  module _ (l : at < length s) where
    behind-at : 0 < length (drop at s)
    behind-at = rw length-drop (omega arith)

    pub going-many : 2048 ≤ n → line refusal_name 8 ≡ answered s
    going-many m =
        let z : 2048 - n ≡ 0 = omega arith in
        sym (g.left ∙ rw z (run-over (drop at s) ts behind-at))

    module _ (m : n < 2048) where
      one_less : 2048 - n ≡ suc (2048 - (n + 1))
      one_less = omega arith

      pub going-other : neither ≡ two_in (drop at s) → line refusal_name 8 ≡ answered s
      going-other e = sym (g.left ∙ rw one_less (run-other (2048 - (n + 1)) (drop at s) ts behind-at (sym e)))

      pub going_more : (p : Pair) → Reads s (Some p) (two_in (drop at s)) → Going s (put ts p.scheme p.slack) p.end (n + 1)
      going_more p r =
          let k = pair-known s at p r.means in
          record {
            left =
                g.left ∙ ap (λ (i : ℕ). text_after ts (recorded_in i (drop at s))) one_less
                ∙ run_more (2048 - (n + 1)) (drop at s) ts behind-at (sym r.means);
            within = r.within;
            held = held_more ts p.scheme p.slack g.held k.0 k.1;
          }
