-- `parts::unpair` meets its contract: it fills with the words, two at a time.
use Rattle.lists.proofs.Kit.{List, ℕ, ◌*◌, get_or}
use Rattle.lists.proofs.{Fill.Filled}
use Rattle.parts.specs.Parts.{words}
use Rattle.parts.proofs.unpair.Given as goal

abbrev pub from : List ℕ → ℕ → ℕ
from xs k = get_or (words xs) k 0

abbrev pub invariant-loop-i : goal.invariant-loop-i
invariant-loop-i l = Filled (from l.xs) l.initial.out l.out (2 * l.i)
