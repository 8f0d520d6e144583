-- What is not yet written is as it was.
--   read-ahead   where it is read ahead of what is written
use Rattle.lists.proofs.Kit.{◌≡◌, List, ℕ, ◌+◌, ◌-◌, ◌<◌, arith, dec_lt, get_or}
use Rattle.lists.specs.Ranges.{Stored}
use Rattle.halves.specs.Steps.{Ahead}

pub read-ahead : {w w' : List ℕ} {to i : ℕ} {f : ℕ → ℕ} → Stored 0 w to i f w' → {x n : ℕ} → Ahead x to n → i < n → get_or w' (x + i) 0 ≡ get_or w (x + i) 0
read-ahead {w} {w'} {to} {i} old {x} {n} h l = go (dec_lt (x + i) to) (dec_lt (x + i) (to + i))
  where
    go : Dec (x + i < to) → Dec (x + i < to + i) → get_or w' (x + i) 0 ≡ get_or w (x + i) 0
    go (yes p) d = old.below (x + i) p
    go (no p) (no r) = old.above (x + i) (omega arith)
    go (no p) (yes r) = absurd (h.ahead i (x + i - to) (omega arith) l (omega arith))
