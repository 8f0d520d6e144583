-- What is shown of BCNS's reconciliation, and of the slack used: 02f.
--   formula_of h w           the initiator's bit as the code computes it
--   Formula                 which is that of 01's rule
--   margin                  how far apart v and w may be
--   Agreement               up to there both ends have the same bit
--   EveryEntry              both ends have the same bits where the margin holds at every entry
--   SlackLeast              some z with the hint is as far from 2w as the slack says, and none is nearer
--   past, SlackFormula      the slack as the code computes it
--   SlackNone               it is 0 exactly if 2w has the hint
--   most_slack, SlackBound   the largest that it can be, and that it is no more
--   SlackApart              under the hint of the replier's z it is at most twice the distance of v and w, and one
use Rattle.std.specs.Prelude.{◌≡◌, List, ◌↔◌, ℕ, ◌+◌, ◌*◌, ◌-◌, ◌/◌, ◌%◌, ◌≤◌, ◌<◌, min, length, get_or}
use Rattle.numbers.specs.{Residue.apart, Congruence.LeastGap}
use Rattle.lists.specs.Ranges.{Below}
use Rattle.bcns.specs.Rounding.{q, doubled, hint_of, key_of, peer_of, slack_of, hints_of, keys_of, peers_of}

abbrev pub formula_of : ℕ → ℕ → ℕ
formula_of h w = (w + (1 + 2 * h) * ((q + 1) / 8)) / ((q + 1) / 2) % 2

abbrev pub Formula : Type 0
Formula = (h w : ℕ) → w < q → h < 2 → peer_of h w ≡ formula_of h w

abbrev pub margin : ℕ
margin = 536870911

-- for each coin, v and w at most the margin apart: the initiator's bit is the replier's
abbrev pub Agreement : Type 0
Agreement = (c v w : ℕ) → c < 4 → v < q → w < q → apart q v w ≤ margin → peer_of (hint_of (doubled c v)) w ≡ key_of (doubled c v)

-- whatever the coins are
abbrev pub EveryEntry : Type 0
EveryEntry =
    (cs vs ws : List ℕ) → length vs ≡ length ws → Below q vs → Below q ws
    → ((k : ℕ) → k < length vs → apart q (get_or vs k 0) (get_or ws k 0) ≤ margin) → peers_of (hints_of cs vs) ws ≡ keys_of cs vs

abbrev pub SlackLeast : Type 0
SlackLeast = (h w : ℕ) → w < q → h < 2 → LeastGap (2 * q) (λ z. hint_of z ≡ h) (2 * w) (slack_of h w)

-- how far 2w stands behind the start of a row of z with the other hint, modulo q: hints repeat after q
abbrev pub past : ℕ → ℕ → ℕ
past h w = (2 * w + (1 - h) * (q / 2)) % q

-- the way out of that row, 0 behind it; the row of the hint 0 has one more
abbrev pub SlackFormula : Type 0
SlackFormula = (h w : ℕ) → w < q → h < 2 → slack_of h w ≡ min (past h w + 1) (q / 2 + h - past h w)

abbrev pub SlackNone : Type 0
SlackNone = (h w : ℕ) → w < q → h < 2 → (slack_of h w ≡ 0) ↔ (hint_of (2 * w) ≡ h)

abbrev pub most_slack : ℕ
most_slack = 1073741824

abbrev pub SlackBound : Type 0
SlackBound = (h w : ℕ) → w < q → h < 2 → slack_of h w ≤ most_slack

abbrev pub SlackApart : Type 0
SlackApart = (c v w : ℕ) → v < q → w < q → slack_of (hint_of (doubled c v)) w ≤ 2 * apart q v w + 1
