-- `vectors::main` is safe. `search` does not count so long an array.
use Rattle.std.proofs.Common.{sym, ℕ}
use Rattle.std.proofs.lemmas.List.{length-replicate}
use Rattle.vectors.proofs.main.Goals as goal

pub slice_bounds-with_values-end : goal.slice_bounds-with_values-end
slice_bounds-with_values-end c = sym (length-replicate {A = ℕ} 746497 0)
