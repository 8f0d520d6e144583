-- Lanes of 64 bits stay such.
--   theta-keeps, rho-keeps, pi-keeps, chi-keeps, iota-keeps   through each step
--   xor-keeps                                                 through a sum
--   keccak-keeps                                              and through all rounds
use Rattle.lists.proofs.Kit.{refl, List, [], ℕ, zero, suc, mod-lt, le_of_eq, div-le_self, arith, bit_xor, xor_lt}
use Rattle.std.proofs.Common.{◌∷◌, ◌+◌, ◌-◌, ◌*◌, ◌/◌, ◌%◌, ◌^◌, ◌<◌}
use Rattle.lists.proofs.Kit.{and_le_r, set}
use native.Mathlib.Nat.{lt_of_le_of_lt}
use lib.Bits.{or_lt}
use Rattle.lists.specs.{Ranges.Below, First.first_over_lem, First.first_where}
use Rattle.lists.proofs.{Entries.below-tab, Entries.below_set, First.all-below, Parts.below-tail}
use Rattle.keccak.specs.Keccak.{state, lane, rot, flip, offsets, theta, rho, pi, chi, iota, round, rounds, constants, keccak_f}
use Rattle.fips.specs.Steps.{Lanes}
use Rattle.fips.proofs.Steps.{lane_below, parity-below}

pub xor-keeps : {a b : ℕ} → a < 2 ^ 64 → b < 2 ^ 64 → bit_xor a b < 2 ^ 64
xor-keeps {a} {b} p q = xor_lt 64 a b p q

rot-keeps : (n : ℕ) {a : ℕ} → a < 2 ^ 64 → rot n a < 2 ^ 64
rot-keeps zero h = h
rot-keeps (suc n) {a} h =
    or_lt 64 (a * 2 ^ suc n % 2 ^ 64) (a / 2 ^ (64 - suc n)) (mod-lt (a * 2 ^ suc n) (omega arith)) (lt_of_le_of_lt (div-le_self a (2 ^ (64 - suc n))) h)

-- also where there is no such lane
set_keeps : (a : List ℕ) {v : ℕ} → v < 2 ^ 64 → Lanes a → Lanes (set a 0 v)
set_keeps [] o h = h
set_keeps (x ∷ a) o h = below_set (x ∷ a) 0 (omega arith) o h

state-keeps : (f : ℕ → ℕ → ℕ) → ((x y : ℕ) → f x y < 2 ^ 64) → Lanes (state f)
state-keeps f h = below-tab (2 ^ 64) 25 (λ i. f (i % 5) (i / 5)) (omega arith) (λ k l. h (k % 5) (k / 5))

module _ {a : List ℕ} (h : Lanes a) where
  pub theta-keeps : Lanes (theta a)
  unfolding theta
  theta-keeps = state-keeps _ (λ x y. xor-keeps (lane_below h x y) (xor-keeps (parity-below h (x + 4)) (rot-keeps 1 (parity-below h (x + 1)))))

  pub rho-keeps : Lanes (rho a)
  unfolding rho
  rho-keeps = state-keeps _ (λ x y. rot-keeps (lane offsets x y) (lane_below h x y))

  pub pi-keeps : Lanes (pi a)
  unfolding pi
  pi-keeps = state-keeps _ (λ x y. lane_below h (x + 3 * y) x)

  pub chi-keeps : Lanes (chi a)
  unfolding chi
  chi-keeps =
      state-keeps _
      (λ x y. xor-keeps (lane_below h x y) (lt_of_le_of_lt (and_le_r (flip (lane a (x + 1) y)) (lane a (x + 2) y)) (lane_below h (x + 2) y)))

  pub iota-keeps : (rc : ℕ) → rc < 2 ^ 64 → Lanes (iota rc a)
  unfolding iota
  iota-keeps rc o = set_keeps a (xor-keeps (lane_below h 0 0) o) h

pub round_keeps : (rc : ℕ) {a : List ℕ} → rc < 2 ^ 64 → Lanes a → Lanes (round rc a)
unfolding round
round_keeps rc o h = iota-keeps (chi-keeps (pi-keeps (rho-keeps (theta-keeps h)))) rc o

rounds-keep : (rcs a : List ℕ) → Below (2 ^ 64) rcs → Lanes a → Lanes (rounds rcs a)
unfolding rounds
rounds-keep [] a b h = h
rounds-keep (rc ∷ rcs) a b h = rounds-keep rcs (round rc a) (below-tail b) (round_keeps rc (b.below 0) h)

pub constants-below : Below (2 ^ 64) constants
unfolding first_over_lem first_where
constants-below = all-below (2 ^ 64) constants (omega arith) (le_of_eq refl)

pub keccak-keeps : (a : List ℕ) → Lanes a → Lanes (keccak_f a)
unfolding keccak_f
keccak-keeps a h = rounds-keep constants a constants-below h
