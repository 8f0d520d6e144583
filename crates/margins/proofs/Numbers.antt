-- What the runs ask of the fixed numbers of a scheme.
--   in_buffer    a list that fits a new buffer of zeros
--   quarter-lt   a quarter of the interval, and one more, are small
use Rattle.lists.proofs.Kit.{ℕ, ◌+◌, ◌/◌, ◌^◌, ◌≤◌, ◌<◌, div-le_self, arith, length, replicate, length-replicate}

pub in_buffer : {n : ℕ} (room : ℕ) → n ≤ room → n ≤ length {A = ℕ} (replicate room 0)
in_buffer room h = rw length-replicate h

pub quarter-lt : {q : ℕ} (k : ℕ) → q < 2 ^ 32 → q / 2 ^ k / 4 + 1 < 2 ^ 31
quarter-lt {q} k h = omega (arith, div-le_self q (2 ^ k))
