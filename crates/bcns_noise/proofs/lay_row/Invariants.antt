-- `bcns_noise::lay_row` meets its contract.
use Rattle.lists.proofs.Kit.{ℕ}
use Rattle.std.proofs.Common.{◌+◌, ◌*◌, ◌^◌, ◌<◌}
use Rattle.lists.specs.Ranges.{Below, Stored}
use Rattle.bcns_noise.specs.{Noise.big_endian, Limbs.word_bytes}
use Rattle.bcns_noise.proofs.lay_row.Given as goal

abbrev pub invariant-loop-k : goal.invariant-loop-k
invariant-loop-k l =
    Stored 0 l.initial.t (56 * l.i) l.k (λ (j : ℕ). big_endian (word_bytes l.table) (24 * j + 3 * l.i) 3) l.t × (0 < l.k → Below (2 ^ 64) l.table)
