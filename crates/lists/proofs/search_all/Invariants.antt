-- `lists::search_all` meets its contract: each test is a factor 0 or 1.
use Rattle.lists.proofs.Kit.{Bool, ℕ, leb}
use Rattle.std.proofs.Common.{◌≤◌}
use Rattle.lists.proofs.{First.Looking}
use Rattle.lists.proofs.search_all.Given as goal

abbrev pub over : ℕ → ℕ → Bool
over q x = leb q x

abbrev pub invariant-loop-x : goal.invariant-loop-x
invariant-loop-x l = Looking (over l.q) l.xs 0 l.x-index l.passed l.still × (l.still ≤ 1)
