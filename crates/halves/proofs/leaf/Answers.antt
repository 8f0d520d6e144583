-- `halves::leaf` meets its contract.
use Rattle.lists.proofs.Kit.{◌≡◌, ℕ, arith, get_or, replicate, length-replicate}
use Rattle.lists.proofs.Entries.{below-zeros}
use Rattle.halves.proofs.{Columns.cells-none, Columns.leaf-law}
use Rattle.halves.proofs.leaf.Goals as goal

zero : (n k : ℕ) → get_or {A = ℕ} (replicate n 0) k 0 ≡ 0
zero n k = omega (arith, (below-zeros {q = 1} n (omega arith)).below k)

pub lay_second-requires-clause-by_index : goal.lay_second-requires-clause-by_index
lay_second-requires-clause-by_index c = zero 34

pub rows-requires-clause-padded : goal.rows-requires-clause-padded
rows-requires-clause-padded c = (c.lay_second.ensures, cells-none (length-replicate {A = ℕ} 64 0) (length-replicate {A = ℕ} 64 0) (zero 64) (zero 64))

pub returns : goal.returns
returns c = leaf-law c.rows.ensures c.settle.ensures
