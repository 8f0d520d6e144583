-- The rounds of the permutation, one after the other.
--   round-next   the rounds from the i-th on are the i-th and those from the next on
use Rattle.lists.proofs.Kit.{sym, ap, ◌∙◌, List, ℕ, add-one, get_or, drop, drop-cons}
use Rattle.std.proofs.Common.{◌≡◌, ◌+◌, ◌<◌}
use Rattle.keccak.specs.Keccak.{round, rounds, constants}

pub round-next : (s : List ℕ) (i : ℕ) → i < 24 → rounds (drop i constants) s ≡ rounds (drop (i + 1) constants) (round (get_or constants i 0) s)
unfolding rounds
round-next s i h =
    ap (λ (l : List ℕ). rounds l s) (drop-cons constants i 0 h)
    ∙ ap (λ (k : ℕ). rounds (drop k constants) (round (get_or constants i 0) s)) (sym (add-one i))
