-- The rounds on lanes are the standard's on bits: each step reads of an array only the bits that it has, so that one may follow the other.
--   keccak-on   arrays with the same bits have the same bits after all rounds
--   keccak-is   all rounds, one after the other
use Rattle.lists.proofs.Kit.{refl, ap₂, ◌∙◌, List, [], ℕ, zero, suc, mod-lt, arith, length}
use Rattle.std.proofs.Common.{◌≡◌, ◌∷◌, ◌+◌, ◌*◌, ◌%◌, ◌^◌, ◌<◌}
use Rattle.lists.specs.Ranges.{Below}
use Rattle.lists.proofs.{Entries.tab-length, Parts.below-tail}
use Rattle.keccak.specs.Keccak.{constants, theta, rho, pi, chi, round, rounds, keccak_f}
use Rattle.fips.specs.Steps.{Array, column, θ, ρ, π, χ, ι, rnd, rnds, keccak_p, bit_at, Lanes, Same, KeccakIs}
use Rattle.fips.proofs.Kept.{theta-keeps, rho-keeps, pi-keeps, round_keeps, constants-below}
use Rattle.fips.proofs.Steps.{theta-is, rho-is, pi-is, chi-is, iota-is}

five : (n : ℕ) → n % 5 < 5
five n = mod-lt n (omega arith)

sixty-four : (n : ℕ) → n % 64 < 64
sixty-four n = mod-lt n (omega arith)

module _ {A B : Array} (s : Same A B) where
  column-on : (x z : ℕ) → x < 5 → z < 64 → column A x z ≡ column B x z
  column-on x z hx hz =
      cc (s x 0 z hx (omega arith) hz, s x 1 z hx (omega arith) hz, s x 2 z hx (omega arith) hz, s x 3 z hx (omega arith) hz, s x 4 z hx (omega arith) hz)

  theta-on : Same (θ A) (θ B)
  unfolding θ
  theta-on x y z hx hy hz =
      ap₂ (λ (j k : ℕ). (j + k) % 2) (ap₂ (λ (j k : ℕ). j + k) (s x y z hx hy hz) (column-on ((x + 4) % 5) z (five (x + 4)) hz))
      (column-on ((x + 1) % 5) ((z + 63) % 64) (five (x + 1)) (sixty-four (z + 63)))

  rho-on : Same (ρ A) (ρ B)
  unfolding ρ
  rho-on x y z hx hy hz = s x y _ hx hy (sixty-four _)

  pi-on : Same (π A) (π B)
  unfolding π
  pi-on x y z hx hy hz = s ((x + 3 * y) % 5) x z (five (x + 3 * y)) hx hz

  chi-on : Same (χ A) (χ B)
  unfolding χ
  chi-on x y z hx hy hz =
      cc (s x y z hx hy hz, s ((x + 1) % 5) y z (five (x + 1)) hy hz, s ((x + 2) % 5) y z (five (x + 2)) hy hz)

  iota-on : (rc : ℕ) → Same (ι rc A) (ι rc B)
  unfolding ι
  iota-on rc zero zero z hx hy hz = cc (s 0 0 z hx hy hz)
  iota-on rc zero (suc y) z hx hy hz = s 0 (suc y) z hx hy hz
  iota-on rc (suc x) y z hx hy hz = s (suc x) y z hx hy hz

rnd-on : (rc : ℕ) {A B : Array} → Same A B → Same (rnd rc A) (rnd rc B)
unfolding rnd
rnd-on rc s = iota-on (chi-on (pi-on (rho-on (theta-on s)))) rc

rnds-on : (rcs : List ℕ) {A B : Array} → Same A B → Same (rnds rcs A) (rnds rcs B)
unfolding rnds
rnds-on [] s = s
rnds-on (rc ∷ rcs) s = rnds-on rcs (rnd-on rc s)

pub keccak-on : {A B : Array} → Same A B → Same (keccak_p A) (keccak_p B)
unfolding keccak_p
keccak-on s = rnds-on constants s

-- ---- a round, and all of them

chi-long : (a : List ℕ) → length (chi a) ≡ 25
unfolding chi
chi-long a = tab-length 25 _

and_then : {A B C : Array} → Same A B → Same B C → Same A C
and_then p q x y z hx hy hz = p x y z hx hy hz ∙ q x y z hx hy hz

round_is : (rc : ℕ) (a : List ℕ) → Lanes a → Same (bit_at (round rc a)) (rnd rc (bit_at a))
unfolding round rnd
round_is rc a h =
    let t = theta-keeps h in
    let r = rho-keeps t in
    let p = pi-keeps r in
    and_then (iota-is rc (chi (pi (rho (theta a)))) (chi-long (pi (rho (theta a)))))
    (iota-on (and_then (chi-is (pi (rho (theta a))) p)
    (chi-on (and_then (pi-is (rho (theta a)) r) (pi-on (and_then (rho-is (theta a) t) (rho-on (theta-is a h))))))) rc)

rounds-are : (rcs a : List ℕ) → Below (2 ^ 64) rcs → Lanes a → Same (bit_at (rounds rcs a)) (rnds rcs (bit_at a))
unfolding rounds rnds
rounds-are [] a b h = λ x y z hx hy hz. refl
rounds-are (rc ∷ rcs) a b h =
    and_then (rounds-are rcs (round rc a) (below-tail b) (round_keeps rc (b.below 0) h)) (rnds-on rcs (round_is rc a h))

pub keccak-is : KeccakIs
unfolding keccak_f keccak_p
keccak-is a h = rounds-are constants a constants-below h
