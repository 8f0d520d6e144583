-- FIPS 202 on strings of bits. A bit is 0 or 1, and the bits of a number are its digits in base 2, the lowest first.
--   string l            B.1: the string of a string of bytes
--   pad x m             5.1: pad10*1(x, m) is 1 ‖ 0^j ‖ 1 with j = (-m - 2) mod x
--   array s, string_of A   3.1.2, 3.1.3: the state array of a string of 1,600 bits, and its string
--   permuted s          KECCAK-p[1600, 24](S)
--   xored s p           S ⊕ (P ‖ 0^c); past its end a string reads 0
--   absorbing r p j     algorithm 8, steps 5 and 6: the state after j blocks of r bits
--   turning s j         step 10: a state, permuted j times
--   squeezing r s d     steps 7 to 10: d bits, of each state the first r
--   sponge_of r n d      algorithm 8 with pad10*1: P = N ‖ pad10*1(r, len N) is absorbed, and d bits are squeezed out
--   ShakeIs             6.2: SHAKE128(M, d) is SPONGE with the rate 1344 of M ‖ 1111
--   Sha3Is              6.1: SHA3-256(M) is SPONGE with the rate 1088 of M ‖ 01, 256 bits of it
use Rattle.std.specs.Prelude.{◌≡◌, List, [], ◌∷◌, ◌++◌, ℕ, zero, suc, ◌+◌, ◌-◌, ◌*◌, ◌/◌, ◌%◌, length, get_or, take, drop, replicate}
use Rattle.lists.specs.{Entries.tab, Ranges.Below}
use Rattle.packing.specs.Packing.{digits}
use Rattle.sponge.specs.Sponge.{shake128, sha3}
use Rattle.fips.specs.Steps.{Array, keccak_p}

unfoldable pub string : List ℕ → List ℕ
string [] = []
string (b ∷ bs) = digits 2 8 b ++ string bs

unfoldable pub pad : ℕ → ℕ → List ℕ
pad x m = 1 ∷ (replicate ((x - (m + 2) % x) % x) 0 ++ (1 ∷ []))

-- ---- the sponge

abbrev pub array : List ℕ → Array
array s x y z = get_or s (64 * (5 * y + x) + z) 0

abbrev pub string_of : Array → List ℕ
string_of A = tab 1600 (λ i. A (i / 64 % 5) (i / 64 / 5) (i % 64))

unfoldable pub permuted : List ℕ → List ℕ
permuted s = string_of (keccak_p (array s))

unfoldable pub xored : List ℕ → List ℕ → List ℕ
xored s p = tab 1600 (λ i. (get_or s i 0 + get_or p i 0) % 2)

unfoldable pub absorbing : ℕ → List ℕ → ℕ → List ℕ
absorbing r p zero = replicate 1600 0
absorbing r p (suc j) = permuted (xored (absorbing r p j) (take r (drop (j * r) p)))

unfoldable pub turning : List ℕ → ℕ → List ℕ
turning s zero = s
turning s (suc j) = permuted (turning s j)

unfoldable pub squeezing : ℕ → List ℕ → ℕ → List ℕ
squeezing r s d = tab d (λ i. get_or (turning s (i / r)) (i % r) 0)

unfoldable pub sponge_of : ℕ → List ℕ → ℕ → List ℕ
sponge_of r n d =
    squeezing r (absorbing r (n ++ pad r (length n)) (length (n ++ pad r (length n)) / r)) d

abbrev pub ShakeIs : Type 0
ShakeIs = (m : List ℕ) (n : ℕ) → Below 256 m → string (shake128 m n) ≡ sponge_of 1344 (string m ++ 1 ∷ 1 ∷ 1 ∷ 1 ∷ []) (8 * n)

abbrev pub Sha3Is : Type 0
Sha3Is = (m : List ℕ) → Below 256 m → string (sha3 m) ≡ sponge_of 1088 (string m ++ 0 ∷ 1 ∷ []) 256
