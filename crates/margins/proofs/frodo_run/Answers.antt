-- `margins::frodo_run` is safe: the public numbers of every scheme fit their buffer. `search` does not count so long a list.
use Rattle.std.proofs.Common.{sym, ℕ}
use Rattle.lists.proofs.Parts.{same-long}
use Rattle.margins.proofs.Numbers.{in_buffer}
use Rattle.margins.proofs.frodo_run.Goals as goal

pub slice_bounds-a-end : goal.slice_bounds-a-end
slice_bounds-a-end g c = in_buffer 746496 c.requires.4

pub slice_bounds-frodo_in-end : goal.slice_bounds-frodo_in-end
slice_bounds-frodo_in-end g c = sym (same-long {A = ℕ} c.args.public 746496 0 c.requires.4)
