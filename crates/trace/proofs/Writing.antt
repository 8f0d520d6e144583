-- Writing the answer.
--   block_none, block-left     a scheme's lines: none, or in parts
--   Blocks, blocks-none, blocks-room, blocks_more, blocks-all   a loop over the schemes: before, at each turn, after
use Rattle.lists.proofs.Kit.{refl, sym, ap, subst, List, [], append-nil, ℕ, zero, suc, add-one, arith, length, drop, eq-eqb, ne_eqb}
use Rattle.std.proofs.Common.{◌≡◌, ◌∷◌, ◌++◌, ◌+◌, ◌≤◌, ◌<◌}
use Rattle.text.specs.{Text.scheme_name, Text.line, Steps.Written}
use Rattle.text.proofs.Writing.{joined, Left, left-all, left-room, left-next, left-none, written_none}
use Rattle.trace.specs.Steps.{block_at, summary_of, Tally}
use Rattle.trace.specs.Trace.{exchanges_name, sum_name, largest_name, block}

abbrev parts : ℕ → ℕ → ℕ → ℕ → List (List ℕ)
parts s n m g = line scheme_name s ∷ line exchanges_name n ∷ line sum_name m ∷ line largest_name g ∷ []

pub block_none : (s : ℕ) {n : ℕ} (m g : ℕ) (d : List ℕ) (at : ℕ) → n ≡ 0 → Written at (block s n m g) d d at
unfolding block
block_none s {n} m g d at e = rw (eq-eqb n 0 e) (written_none d at)

block-parts : (s n m g : ℕ) → (n ≡ 0 → ⊥) → block s n m g ≡ joined (parts s n m g)
unfolding block joined
block-parts s n m g e =
    rw (ne_eqb n 0 e)
    (ap (λ (t : List ℕ). line scheme_name s ++ (line exchanges_name n ++ (line sum_name m ++ t))) (sym (append-nil (line largest_name g))))

pub block-left : (s n m g : ℕ) (d : List ℕ) (at : ℕ) → at + length (block s n m g) ≤ length d → (n ≡ 0 → ⊥)
    → Left at (block s n m g) d (parts s n m g) d at
block-left s n m g d at h e = left-all at (parts s n m g) d (block-parts s n m g e) h

-- ---- the schemes one after the other

abbrev blocks : List Tally → List (List ℕ)
blocks ts = block_at ts 0 ∷ block_at ts 1 ∷ block_at ts 2 ∷ block_at ts 3 ∷ block_at ts 4 ∷ block_at ts 5 ∷ []

all_blocks : (ts : List Tally) → summary_of ts ≡ joined (blocks ts)
unfolding summary_of joined
all_blocks ts = ap (λ (z : List ℕ). block_at ts 0 ++ (block_at ts 1 ++ (block_at ts 2 ++ (block_at ts 3 ++ (block_at ts 4 ++ z))))) (sym (append-nil (block_at ts 5)))

next-block : (ts : List Tally) (k : ℕ) → k < 6 → drop k (blocks ts) ≡ block_at ts k ∷ drop (suc k) (blocks ts)
next-block ts zero h = refl
next-block ts (suc zero) h = refl
next-block ts (suc (suc zero)) h = refl
next-block ts (suc (suc (suc zero))) h = refl
next-block ts (suc (suc (suc (suc zero)))) h = refl
next-block ts (suc (suc (suc (suc (suc zero))))) h = refl
next-block ts (suc (suc (suc (suc (suc (suc k)))))) h = absurd (omega arith)

-- of the counters ts, the lines of the schemes below k are written into d, which gives e and the position at
pub record Blocks (ts : List Tally) (d : List ℕ) (k : ℕ) (e : List ℕ) (at : ℕ) : Type 0 where
  pub few : k ≤ 6
  pub left : Left 0 (summary_of ts) d (drop k (blocks ts)) e at

pub blocks-none : (ts : List Tally) (d : List ℕ) → length (summary_of ts) ≤ length d → Blocks ts d 0 d 0
blocks-none ts d h = record { few = omega arith; left = left-all 0 (blocks ts) d (all_blocks ts) (omega arith) }

module _ {ts : List Tally} {d e : List ℕ} {k at : ℕ} (h : Blocks ts d k e at) where
  pub blocks-all : 6 ≤ k → Written 0 (summary_of ts) d e at
  blocks-all l =
      let z : k ≡ 6 = omega (arith, h.few) in
      left-none (subst (λ (i : ℕ). Left 0 (summary_of ts) d (drop i (blocks ts)) e at) z h.left)

  module _ (l : k < 6) where
    here : Left 0 (summary_of ts) d (block_at ts k ∷ drop (suc k) (blocks ts)) e at
    here = subst (λ (r : List (List ℕ)). Left 0 (summary_of ts) d r e at) (next-block ts k l) h.left

    pub blocks-room : at + length (block_at ts k) ≤ length e
    blocks-room = left-room here

    pub blocks_more : {f : List ℕ} {r : ℕ} → Written at (block_at ts k) e f r → Blocks ts d (k + 1) f r
    blocks_more w = record { few = omega arith; left = rw add-one (left-next here w) }
