-- Hints, keys and slacks entry by entry: lengths, ranges, and the agreement of two lists.
--   hints-length, keys_length, peers-length   as many as there are values
--   key_below                                 a key is below 2 ^ B
--   hints-below, keys_below, peers-below      hints below 2, keys below 2 ^ B
--   agreement-entries                         entries within the margin: the initiator's keys are the replier's
--   slacks-length                             as many slacks as there are values
--   slacks-apart                              under the replier's hints each is at most the distance of the two values
--   slacks-most                               and under any hints at most the largest that a slack can be
use Rattle.lists.proofs.Kit.{ap, ◌∙◌, List, ℕ, mod-lt, arith, length, get_or, pow_pos}
use Rattle.std.proofs.Common.{◌≡◌, ◌*◌, ◌^◌, ◌≤◌, ◌<◌}
use Rattle.numbers.specs.Residue.{apart}
use Rattle.lists.specs.{Entries.tab, Ranges.Below}
use Rattle.lists.proofs.Entries.{tab-length, tab-at, tab-ext, below-tab}
use Rattle.frodo.specs.Rounding.{hint_of, key_of, peer_of, hints_of, keys_of, peers_of, slack_of, slacks_of}
use Rattle.frodo.specs.{Shown.Round, Shown.EveryEntry, Shown.margin}
use Rattle.frodo.proofs.{Rule.hint-below, Rule.agreement, Away.slack-apart, Away.slack-bound}

pub hints-length : (I : ℕ) (vs : List ℕ) → length (hints_of I vs) ≡ length vs
unfolding hints_of
hints-length I vs = tab-length (length vs) _

pub keys_length : (I B : ℕ) (vs : List ℕ) → length (keys_of I B vs) ≡ length vs
unfolding keys_of
keys_length I B vs = tab-length (length vs) _

pub peers-length : (I B : ℕ) (hs ws : List ℕ) → length (peers_of I B hs ws) ≡ length ws
unfolding peers_of
peers-length I B hs ws = tab-length (length ws) _

pub key_below : (I B v : ℕ) → key_of I B v < 2 ^ B
unfolding key_of
key_below I B v = mod-lt _ (pow_pos B)

pub hints-below : (I : ℕ) (vs : List ℕ) → Below 2 (hints_of I vs)
unfolding hints_of
hints-below I vs = below-tab 2 (length vs) _ (omega arith) (λ k l. hint-below I (get_or vs k 0))

pub keys_below : (I B : ℕ) (vs : List ℕ) → Below (2 ^ B) (keys_of I B vs)
unfolding keys_of
keys_below I B vs = below-tab (2 ^ B) (length vs) _ (pow_pos B) (λ k l. key_below I B (get_or vs k 0))

pub peers-below : (I B : ℕ) (hs ws : List ℕ) → Below (2 ^ B) (peers_of I B hs ws)
unfolding peers_of peer_of
peers-below I B hs ws = below-tab (2 ^ B) (length ws) _ (pow_pos B) (λ k l. key_below I B _)

pub agreement-entries : EveryEntry
unfolding peers_of hints_of keys_of
agreement-entries I B vs ws o e bv bw n d =
    tab-ext (length ws) _ _
    (λ k l.
    let m : k < length vs = omega arith in
    ap (λ (h : ℕ). peer_of I B h (get_or ws k 0)) (tab-at (length vs) (λ j. hint_of I (get_or vs j 0)) k 0 m)
    ∙ agreement I B (get_or vs k 0) (get_or ws k 0) o e (bv.below k) (bw.below k) (d k m))
    ∙ ap (λ (m : ℕ). tab m (λ k. key_of I B (get_or vs k 0))) (omega arith)

pub slacks-length : (I B : ℕ) (hs ws : List ℕ) → length (slacks_of I B hs ws) ≡ length ws
unfolding slacks_of
slacks-length I B hs ws = tab-length (length ws) _

slacks-at : (I B : ℕ) (hs ws : List ℕ) (k : ℕ) → k < length ws → get_or (slacks_of I B hs ws) k 0 ≡ slack_of I B (get_or hs k 0) (get_or ws k 0)
unfolding slacks_of
slacks-at I B hs ws k l = tab-at (length ws) (λ j. slack_of I B (get_or hs j 0) (get_or ws j 0)) k 0 l

pub slacks-apart :
    (I B : ℕ) (vs ws : List ℕ) → Below (I * 2 ^ B) vs → length vs ≡ length ws → (k : ℕ) → k < length ws
    → get_or (slacks_of I B (hints_of I vs) ws) k 0 ≤ apart (I * 2 ^ B) (get_or vs k 0) (get_or ws k 0)
unfolding hints_of
slacks-apart I B vs ws b n k l =
    rw (slacks-at I B (hints_of I vs) ws k l, tab-at (length vs) (λ j. hint_of I (get_or vs j 0)) k 0 (omega arith))
    (slack-apart I B (get_or vs k 0) (get_or ws k 0) (b.below k))

pub slacks-most :
    (I B : ℕ) (hs ws : List ℕ) → Round I B → Below 2 hs → Below (I * 2 ^ B) ws → (k : ℕ) → k < length ws → get_or (slacks_of I B hs ws) k 0 ≤ margin I
slacks-most I B hs ws r bh bw k l =
    rw (slacks-at I B hs ws k l) (slack-bound I B (get_or hs k 0) (get_or ws k 0) r.some r.quarters (bw.below k) (bh.below k))
