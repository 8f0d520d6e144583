-- What gives the tables of Keccak-f[1600]: FIPS 202, section 3.
--   OffsetsRule     rho's table is what algorithm 2 gives
--   ConstantsRule   and iota's what algorithms 5 and 6 give
use Rattle.std.specs.Prelude.{◌≡◌, List, ℕ, zero, suc, ◌+◌, ◌*◌, ◌/◌, ◌%◌, ◌^◌, bit_xor, set}
use Rattle.lists.specs.Entries.{tab}
use Rattle.keccak.specs.Keccak.{offsets, constants}

-- algorithm 2: from (1, 0) on, (x, y) gets (t + 1)(t + 2)/2 modulo 64, and (y, 2x + 3y) is next; n turns are left
abbrev pub walk : ℕ → ℕ → ℕ → ℕ → List ℕ → List ℕ
walk zero t x y l = l
walk (suc n) t x y l = walk n (t + 1) y ((2 * x + 3 * y) % 5) (set l (x + 5 * y) ((t + 1) * (t + 2) / 2 % 64))

abbrev pub OffsetsRule : Type 0
OffsetsRule = offsets ≡ walk 24 0 1 0 (tab 25 (λ i. 0))

-- algorithm 5: the register R after t turns as a number, the standard's R[i] of weight 2^i. A 1 that leaves R[7] is added to R[0], R[4], R[5] and R[6].
abbrev pub register : ℕ → ℕ
register zero = 1
register (suc t) = bit_xor (2 * register t % 256) (register t / 128 * (1 + 2 ^ 4 + 2 ^ 5 + 2 ^ 6))

abbrev pub rc : ℕ → ℕ
rc t = register (t % 255) % 2

-- algorithm 6: RC[2^j - 1] is rc(j + 7i) in round i
abbrev pub round_constant : ℕ → ℕ
round_constant i =
    2 ^ 0 * rc (0 + 7 * i) + 2 ^ 1 * rc (1 + 7 * i) + 2 ^ 3 * rc (2 + 7 * i) + 2 ^ 7 * rc (3 + 7 * i) + 2 ^ 15 * rc (4 + 7 * i)
    + 2 ^ 31 * rc (5 + 7 * i) + 2 ^ 63 * rc (6 + 7 * i)

abbrev pub ConstantsRule : Type 0
ConstantsRule = constants ≡ tab 24 round_constant
