-- A loop over 256 groups that writes at each turn the four places of a group: i, i + 256, i + 512 and i + 768.
--   Spread f out i   what holds when i groups are written: f k at each of their places k
--   spread_start, spread-next, spread_end   before, at each turn, and after
use Rattle.lists.proofs.Kit.{◌∙◌, sym, ap, List, ℕ, arith, length, get_or, set, length-set}
use Rattle.std.proofs.Common.{◌≡◌, ◌+◌, ◌%◌, ◌<◌, ◌≤◌}
use Rattle.lists.specs.Entries.{tab}
use Rattle.lists.proofs.Entries.{tab-ext, tab-getD, entry_set}

pub record Spread (f : ℕ → ℕ) (out : List ℕ) (i : ℕ) : Type 0 where
  pub seen : i ≤ 256
  pub long : length out ≡ 1024
  pub made : (k : ℕ) → k < 1024 → k % 256 < i → get_or out k 0 ≡ f k

pub spread_start : (f : ℕ → ℕ) (out : List ℕ) → length out ≡ 1024 → Spread f out 0
spread_start f out h = record { seen = omega arith; long = h; made = λ k l m. absurd (omega arith) }

pub spread-next : {f : ℕ → ℕ} {out : List ℕ} {i a b c d : ℕ} → Spread f out i → i < 256
    → a ≡ f i → b ≡ f (i + 256) → c ≡ f (i + 512) → d ≡ f (i + 768)
    → Spread f (set (set (set (set out i a) (i + 256) b) (i + 512) c) (i + 768) d) (i + 1)
spread-next {f} {out} {i} {a} {b} {c} {d} h l ea eb ec ed =
    let o1 = set out i a in
    let o2 = set o1 (i + 256) b in
    let o3 = set o2 (i + 512) c in
    let l1 : length o1 ≡ 1024 = length-set out i a ∙ h.long in
    let l2 : length o2 ≡ 1024 = length-set o1 (i + 256) b ∙ l1 in
    let l3 : length o3 ≡ 1024 = length-set o2 (i + 512) c ∙ l2 in
    record {
      seen = omega arith;
      long = length-set o3 (i + 768) d ∙ l3;
      made =
          λ k m n.
          entry_set o3 f (i + 768) k (omega arith) ed
          (λ n3.
          entry_set o2 f (i + 512) k (omega arith) ec
          (λ n2.
          entry_set o1 f (i + 256) k (omega arith) eb
          (λ n1.
          entry_set out f i k (omega (arith, h.long)) ea (λ n0. h.made k m (omega arith)))));
    }

pub spread_end : {f : ℕ → ℕ} {out : List ℕ} {i : ℕ} → Spread f out i → 256 ≤ i → out ≡ tab 1024 f
spread_end {f} {out} {i} h l =
    sym (tab-getD out 0)
    ∙ ap (λ (n : ℕ). tab n (λ k. get_or out k 0)) h.long
    ∙ tab-ext 1024 _ _ (λ k m. h.made k m (omega arith))
