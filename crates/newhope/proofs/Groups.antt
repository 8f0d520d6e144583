-- All 256 groups.
--   hints-length, keys_length, peers-length, hints-below, keys_below, peers-below   lengths and ranges
--   small_group, hint_group   a group of small numbers, of hints
--   hints-group          group i of the hints is the hint of group i
--   own_keys             the replier's bits are those of its own hints
--   groups-agree         where each group is within the margin, all 256 bits agree
--   hint-at, at_place    the hint at k, by its group and its place there
--   hints-next, hints-end   the loop that writes the hints, at each turn and after
use Rattle.lists.proofs.Kit.{refl, ◌∙◌, sym, ap, ap₂, subst, List, Bool, true, false, cond, ℕ, zero, suc, arith, leb, length}
use Rattle.std.proofs.Common.{◌≡◌, ◌+◌, ◌*◌, ◌/◌, ◌%◌, ◌<◌, ◌≤◌}
use Rattle.lists.proofs.Kit.{get_or, set}
use Rattle.lists.specs.Ranges.{Below}
use Rattle.lists.proofs.Entries.{tab-length, tab-at, tab-ext, below-tab}
use Rattle.newhope.specs.Group.{Four, q, groups, hint_of, sum_of, bit_of, group_of, entry_of, hints_of, keys_of, peers_of}
use Rattle.newhope.specs.Shown.{BelowQ, Hint, EveryGroup}
use Rattle.newhope.proofs.{Margin.agreement, Parts.hint-small, Spread.Spread, Spread.spread-next, Spread.spread_end}

-- ---- ranges

bit-small : (h x : Four) → bit_of h x < 2
unfolding bit_of
bit-small h x = go (leb (sum_of h x) (8 * q))
  where
    go : (t : Bool) → cond t 1 0 < 2
    go true = omega arith
    go false = omega arith

entry-small : (g : Four) → Hint g → (j : ℕ) → entry_of g j < 4
unfolding entry_of
entry-small g h zero = h.h0
entry-small g h (suc zero) = h.h1
entry-small g h (suc (suc zero)) = h.h2
entry-small g h (suc (suc (suc j))) = h.h3

pub small_group : {xs : List ℕ} {g : Four} (i : ℕ) → Below q xs → g ≡ group_of xs i → BelowQ g
unfolding group_of
small_group i h e =
    subst BelowQ (sym e) (record { s0 = h.below i; s1 = h.below (i + 256); s2 = h.below (i + 512); s3 = h.below (i + 768) })

pub hint_group : {xs : List ℕ} {g : Four} (i : ℕ) → Below 4 xs → g ≡ group_of xs i → Hint g
unfolding group_of
hint_group i h e =
    subst Hint (sym e) (record { h0 = h.below i; h1 = h.below (i + 256); h2 = h.below (i + 512); h3 = h.below (i + 768) })

module _ (cs vs : List ℕ) where
  pub hints-length : length (hints_of cs vs) ≡ 1024
  unfolding hints_of
  hints-length = tab-length 1024 _

  pub keys_length : length (keys_of cs vs) ≡ 256
  unfolding keys_of
  keys_length = tab-length 256 _

  pub peers-length : length (peers_of cs vs) ≡ 256
  unfolding peers_of
  peers-length = tab-length 256 _

  pub hints-below : Below 4 (hints_of cs vs)
  unfolding hints_of
  hints-below = below-tab 4 1024 _ (omega arith) (λ k l. entry-small _ (hint-small _ _) (k / 256))

  -- ---- the hints, group by group

  -- what stands at k
  unfoldable pub hint-at : ℕ → ℕ
  hint-at k = entry_of (hint_of (get_or cs (k % 256) 0) (group_of vs (k % 256))) (k / 256)

  -- hint j of group i
  pub at_place : (k i j : ℕ) → k % 256 ≡ i → k / 256 ≡ j → hint-at k ≡ entry_of (hint_of (get_or cs i 0) (group_of vs i)) j
  unfolding hint-at
  at_place k i j p r = ap₂ (λ (m n : ℕ). entry_of (hint_of (get_or cs m 0) (group_of vs m)) n) p r

  pub hints-group : (i : ℕ) → i < 256 → group_of (hints_of cs vs) i ≡ hint_of (get_or cs i 0) (group_of vs i)
  unfolding group_of entry_of hints_of hint-at
  hints-group i l =
      let g = hint_of (get_or cs i 0) (group_of vs i) in
      let at : (k j : ℕ) → k < 1024 → k % 256 ≡ i → k / 256 ≡ j → get_or (hints_of cs vs) k 0 ≡ entry_of g j =
      λ k j m p r. tab-at 1024 hint-at k 0 m ∙ at_place k i j p r in
      let p0 : get_or (hints_of cs vs) i 0 ≡ g.e0 = at i 0 (omega arith) (omega arith) (omega arith) in
      let p1 : get_or (hints_of cs vs) (i + 256) 0 ≡ g.e1 = at (i + 256) 1 (omega arith) (omega arith) (omega arith) in
      let p2 : get_or (hints_of cs vs) (i + 512) 0 ≡ g.e2 = at (i + 512) 2 (omega arith) (omega arith) (omega arith) in
      let p3 : get_or (hints_of cs vs) (i + 768) 0 ≡ g.e3 = at (i + 768) 3 (omega arith) (omega arith) (omega arith) in
      λ t. record { e0 = p0 t; e1 = p1 t; e2 = p2 t; e3 = p3 t }

  -- ---- both ends

  pub own_keys : keys_of cs vs ≡ peers_of (hints_of cs vs) vs
  unfolding keys_of peers_of
  own_keys = tab-ext 256 _ _ (λ i l. ap (λ (h : Four). bit_of h (group_of vs i)) (sym (hints-group i l)))

  pub keys_below : Below 2 (keys_of cs vs)
  unfolding keys_of
  keys_below = below-tab 2 256 _ (omega arith) (λ k l. bit-small _ _)

  pub peers-below : Below 2 (peers_of cs vs)
  unfolding peers_of
  peers-below = below-tab 2 256 _ (omega arith) (λ k l. bit-small _ _)

pub groups-agree : EveryGroup
unfolding keys_of peers_of
groups-agree cs vs ws hc hv hw d =
    tab-ext groups _ _
    (λ i l.
    ap (λ (h : Four). bit_of h (group_of ws i)) (hints-group cs vs i l)
    ∙ agreement (get_or cs i 0) (group_of vs i) (group_of ws i) (hc.below i) (small_group i hv refl) (small_group i hw refl) (d i l))

-- ---- the code: entry j of group i stands at i + 256 j

-- the loop that writes the hints: h is that of group i

pub hints-next : (cs vs : List ℕ) {out : List ℕ} {i p0 p1 p2 p3 : ℕ} {g h : Four} → Spread (hint-at cs vs) out i → i < groups
    → g ≡ group_of vs i → h ≡ hint_of (get_or cs i 0) g → p0 ≡ i + groups * 0 → p1 ≡ i + groups * 1 → p2 ≡ i + groups * 2 → p3 ≡ i + groups * 3
    → Spread (hint-at cs vs) (set (set (set (set out p0 h.e0) p1 h.e1) p2 h.e2) p3 h.e3) (i + 1)
unfolding entry_of
hints-next cs vs {out} {i} {p0} {p1} {p2} {p3} {g} {h} s l e f r0 r1 r2 r3 =
    let first : p0 ≡ i = omega arith in
    let at : (k j : ℕ) → k % 256 ≡ i → k / 256 ≡ j → entry_of h j ≡ hint-at cs vs k =
    λ k j p r. ap (λ (x : Four). entry_of x j) (f ∙ ap (hint_of (get_or cs i 0)) e) ∙ sym (at_place cs vs k i j p r) in
    rw (first, r1, r2, r3)
    (spread-next s l (at i 0 (omega arith) (omega arith)) (at (i + 256) 1 (omega arith) (omega arith)) (at (i + 512) 2 (omega arith) (omega arith))
    (at (i + 768) 3 (omega arith) (omega arith)))

pub hints-end : (cs vs : List ℕ) {out : List ℕ} {i : ℕ} → Spread (hint-at cs vs) out i → 256 ≤ i → out ≡ hints_of cs vs
unfolding hint-at hints_of
hints-end cs vs s l = spread_end s l
