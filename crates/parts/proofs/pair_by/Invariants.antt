-- `parts::pair_by` meets its contract: it fills with numbers of two words each.
use Rattle.lists.proofs.Kit.{◌≡◌, List, ℕ, ◌+◌, ◌*◌, ◌<◌, length, get_or}
use Rattle.lists.proofs.Fill.{Filled}
use Rattle.parts.proofs.pair_by.Given as goal

abbrev pub from : List ℕ → ℕ → ℕ
from ws k = get_or ws (2 * k) 0 + 65536 * get_or ws (2 * k + 1) 0

abbrev pub invariant-loop-i : goal.invariant-loop-i
invariant-loop-i g l =
    (ws : List ℕ) → ((k w : ℕ) → k < 2 * length l.initial.out → goal.F-post g l.at k w → w ≡ get_or ws k 0) → Filled (from ws) l.initial.out l.out l.i
