-- A matrix as a list, row after row.
--   rows-length, rows_at, nums-rows, rows-below   its length, its entries, and that they are below q
use Rattle.lists.proofs.Kit.{◌∙◌, ap, ap₂, ℕ, suc, arith, mul-le-mul_right, digits_div, digits_mod, length, get_or, pos}
use Rattle.std.proofs.Common.{◌≡◌, ◌+◌, ◌*◌, ◌<◌, ◌≤◌}
use Rattle.lists.specs.{Entries.nums, Ranges.Below}
use Rattle.lists.proofs.Entries.{tab-length, tab-at, below-tab}
use Rattle.matrix.specs.Matrix.{rows, nums_at}

pub rows-length : (r c : ℕ) (f : ℕ → ℕ → ℕ) → length (rows r c f) ≡ r * c
unfolding rows
rows-length r c f = tab-length (r * c) _

pub rows_at : (r c : ℕ) (f : ℕ → ℕ → ℕ) (i j : ℕ) → i < r → j < c → get_or (rows r c f) (i * c + j) 0 ≡ f i j
unfolding rows
rows_at r c f i j p q =
    let m : suc i * c ≤ r * c = mul-le-mul_right c p in
    tab-at (r * c) _ (i * c + j) 0 (omega arith) ∙ ap₂ f (digits_div i {m = c} {r = j} q) (digits_mod i {m = c} {r = j} q)

pub nums-rows : (r c : ℕ) (f : ℕ → ℕ → ℕ) (i j : ℕ) → i < r → j < c → nums_at c (rows r c f) i j ≡ pos (f i j)
unfolding nums_at nums
nums-rows r c f i j p q = ap pos (rows_at r c f i j p q)

pub rows-below : (q r c : ℕ) (f : ℕ → ℕ → ℕ) → 0 < q → ((i j : ℕ) → f i j < q) → Below q (rows r c f)
unfolding rows
rows-below q r c f h p = below-tab q (r * c) _ h (λ k l. p _ _)
