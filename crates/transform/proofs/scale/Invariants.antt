-- `transform::scale` meets its contract: it fills with the entries of the inverse.
use Rattle.lists.proofs.Kit.{◌≡◌, List, ℕ, ◌-◌, ◌*◌, ◌%◌, ◌^◌, length, get_or}
use Rattle.lists.proofs.Fill.{Filled}
use Rattle.transform.proofs.scale.Given as goal

-- entry k of the inverse
abbrev pub entry : List ℕ → ℕ → ℕ
entry src k = get_or src ((1024 - k) % 1024) 0 * (12 * (7 ^ (1024 - k) % 12289)) % 12289

abbrev pub invariant-loop-k : goal.invariant-loop-k
invariant-loop-k l = (length l.initial.dst ≡ 1024) × Filled (entry l.src) l.initial.dst l.dst l.k
