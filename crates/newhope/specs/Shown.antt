-- What is shown of NewHope's reconciliation, and the ranges of what it takes.
--   BelowQ v     the four entries of a group are below q
--   Hint h       the four of a hint are below 4
--   apart_of v w  the four distances between v and w, summed
--   margin       how large the four distances between v and w may be together
--   Agreement    up to there both ends compute the same bit
--   Published    and the replier's is the published one
--   EveryGroup   both ends have the same bits where the margin holds in each of the 256 groups
use Rattle.std.specs.Prelude.{◌≡◌, List, ◌↔◌, ℕ, ◌+◌, ◌≤◌, ◌<◌}
use Rattle.numbers.specs.Residue.{apart}
use Rattle.lists.specs.Ranges.{Below}
use Rattle.newhope.specs.Group.{Four, q, groups, p_of, hint_of, bit_of, group_of, hints_of, keys_of, peers_of}

pub record BelowQ (v : Four) : Type 0 where
  pub s0 : v.e0 < q
  pub s1 : v.e1 < q
  pub s2 : v.e2 < q
  pub s3 : v.e3 < q

pub record Hint (h : Four) : Type 0 where
  pub h0 : h.e0 < 4
  pub h1 : h.e1 < 4
  pub h2 : h.e2 < 4
  pub h3 : h.e3 < 4

unfoldable pub apart_of : Four → Four → ℕ
apart_of v w = apart q v.e0 w.e0 + apart q v.e1 w.e1 + apart q v.e2 w.e2 + apart q v.e3 w.e3

abbrev pub margin : ℕ
margin = 9214

abbrev pub Agreement : Type 0
Agreement = (b : ℕ) (v w : Four) → b < 2 → BelowQ v → BelowQ w → apart_of v w ≤ margin → bit_of (hint_of b v) w ≡ bit_of (hint_of b v) v

-- 0 (far) exactly if p3 is 2 or 3
abbrev pub Published : Type 0
Published = (b : ℕ) (v : Four) → b < 2 → BelowQ v → (bit_of (hint_of b v) v ≡ 0) ↔ ((2 ≤ p_of b v v.e3) × (p_of b v v.e3 ≤ 3))

abbrev pub EveryGroup : Type 0
EveryGroup =
    (cs vs ws : List ℕ) → Below 2 cs → Below q vs → Below q ws
    → ((i : ℕ) → i < groups → apart_of (group_of vs i) (group_of ws i) ≤ margin) → peers_of (hints_of cs vs) ws ≡ keys_of cs vs
