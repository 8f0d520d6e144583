-- `lists::each::set_each`: the entries before k are made, and those from k on are as they were.
use Rattle.std.proofs.Common.{◌≡◌, ℕ, ◌<◌, ◌≤◌, length, get_or}
use Rattle.lists.proofs.each.set_each.Given as goal

abbrev pub invariant-loop-k : goal.invariant-loop-k
invariant-loop-k g l =
    record {
      long : length l.out ≡ length l.initial.out;
      made : (j : ℕ) → j < l.k → goal.F-post g l.entry j (get_or l.initial.out j 0) (get_or l.out j 0);
      left : (j : ℕ) → l.k ≤ j → get_or l.out j 0 ≡ get_or l.initial.out j 0;
    }
