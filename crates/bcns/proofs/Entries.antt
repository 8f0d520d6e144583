-- Hints, keys, the initiator's bits and the slacks of whole lists.
--   hints-length, keys_length, peers-length   as long as the values
--   hints-at        a hint, of its coin and its value
--   hints-below, keys_below, peers-below      each is 0 or 1
--   lists_agree     entry by entry up to the margin apart: the initiator's bits are the replier's keys
--   slacks-length   as many slacks as there are values
--   slacks-apart    under the replier's hints each is at most twice the distance of the two values, and one
--   slacks-most     and under any hints at most the largest that a slack can be
use Rattle.lists.proofs.Kit.{◌∙◌, sym, ap, List, ℕ, arith, length, get_or}
use Rattle.std.proofs.Common.{◌≡◌, ◌+◌, ◌*◌, ◌≤◌, ◌<◌}
use Rattle.numbers.specs.Residue.{apart}
use Rattle.lists.specs.{Entries.tab, Ranges.Below}
use Rattle.lists.proofs.Entries.{tab-length, tab-at, tab-ext, below-tab}
use Rattle.bcns.specs.Rounding.{q, doubled, hint_of, peer_of, hints_of, keys_of, peers_of, slack_of, slacks_of}
use Rattle.bcns.specs.{Shown.EveryEntry, Shown.most_slack}
use Rattle.bcns.proofs.{Regions.hint-below, Regions.key_below, Formula.peer-below, Margin.meet, Away.slack-apart, Away.slack-bound}

module _ (cs vs : List ℕ) where
  pub hints-length : length (hints_of cs vs) ≡ length vs
  unfolding hints_of
  hints-length = tab-length (length vs) _

  pub hints-at : (k : ℕ) → k < length vs → get_or (hints_of cs vs) k 0 ≡ hint_of (doubled (get_or cs k 0) (get_or vs k 0))
  unfolding hints_of
  hints-at k l = tab-at (length vs) _ k 0 l

  pub hints-below : Below 2 (hints_of cs vs)
  unfolding hints_of
  hints-below = below-tab 2 (length vs) _ (omega arith) (λ k l. hint-below _)

  pub keys_length : length (keys_of cs vs) ≡ length vs
  unfolding keys_of
  keys_length = tab-length (length vs) _

  pub keys_below : Below 2 (keys_of cs vs)
  unfolding keys_of
  keys_below = below-tab 2 (length vs) _ (omega arith) (λ k l. key_below _)

module _ (hs ws : List ℕ) where
  pub peers-length : length (peers_of hs ws) ≡ length ws
  unfolding peers_of
  peers-length = tab-length (length ws) _

  pub peers-below : Below 2 (peers_of hs ws)
  unfolding peers_of
  peers-below = below-tab 2 (length ws) _ (omega arith) (λ k l. peer-below _ _)

  pub slacks-length : length (slacks_of hs ws) ≡ length ws
  unfolding slacks_of
  slacks-length = tab-length (length ws) _

  slacks-at : (k : ℕ) → k < length ws → get_or (slacks_of hs ws) k 0 ≡ slack_of (get_or hs k 0) (get_or ws k 0)
  unfolding slacks_of
  slacks-at k l = tab-at (length ws) (λ j. slack_of (get_or hs j 0) (get_or ws j 0)) k 0 l

  pub slacks-most : Below 2 hs → Below q ws → (k : ℕ) → k < length ws → get_or (slacks_of hs ws) k 0 ≤ most_slack
  slacks-most bh bw k l = rw (slacks-at k l) (slack-bound (get_or hs k 0) (get_or ws k 0) (bw.below k) (bh.below k))

pub lists_agree : EveryEntry
unfolding peers_of keys_of
lists_agree cs vs ws e hv hw d =
    ap (λ (n : ℕ). tab n (λ k. peer_of (get_or (hints_of cs vs) k 0) (get_or ws k 0))) (sym e)
    ∙ tab-ext (length vs) _ _
    (λ k l. ap (λ (h : ℕ). peer_of h (get_or ws k 0)) (hints-at cs vs k l) ∙ meet (get_or cs k 0) (get_or vs k 0) (get_or ws k 0) (hv.below k) (hw.below k) (d k l))

pub slacks-apart :
    (cs vs ws : List ℕ) → Below q vs → Below q ws → length vs ≡ length ws → (k : ℕ) → k < length ws
    → get_or (slacks_of (hints_of cs vs) ws) k 0 ≤ 2 * apart q (get_or vs k 0) (get_or ws k 0) + 1
slacks-apart cs vs ws bv bw n k l =
    rw (slacks-at (hints_of cs vs) ws k l, hints-at cs vs k (omega arith))
    (slack-apart (get_or cs k 0) (get_or vs k 0) (get_or ws k 0) (bv.below k) (bw.below k))
