-- Where z lies, in 0 .. 2q - 1, by its hint and its key bit; and that near to z the initiator's formula gives z's key bit.
--   hint-is            the hint, by how many times q goes into 2z
--   hint-below, key_below   each is 0 or 1
--   key-low, key-middle, key-high   the key bit is 1 from 2147483648 up to below 6442450943
--   Region, region     the four regions: (hint, key bit) is (0, 0), (1, 1), (0, 1), (1, 0)
--   formula-is         the initiator's bit as a formula, by how many times 2147483648 goes into its sum
--   near_same          2w is at most 1073741823 from z: the formula under z's hint is z's key bit
use Rattle.lists.proofs.Kit.{◌∙◌, sym, ap, ℕ, dec_lt, arith, mod-lt, leb, le-leb, lt-leb}
use Rattle.std.proofs.Common.{◌≡◌, ◌+◌, ◌*◌, ◌/◌, ◌%◌, ◌≤◌, ◌<◌}
use Rattle.numbers.specs.Congruence.{Close, direct, over, under}
use Rattle.numbers.proofs.Natural.{quotient_is}
use Rattle.lists.specs.First.{both}
use Rattle.lists.proofs.Table.{cond-all}
use Rattle.bcns.specs.{Rounding.q, Rounding.hint_of, Rounding.key_of, Shown.formula_of}

-- the lowest bit of a quotient, from the multiples of d around s
parity-is : (d s k : ℕ) → k * d ≤ s → s < (k + 1) * d → s / d % 2 ≡ k % 2
parity-is d s k l h = ap (λ (n : ℕ). n % 2) (quotient_is s d k l (omega arith))

pub hint-is : (z k : ℕ) → k * q ≤ 2 * z → 2 * z < (k + 1) * q → hint_of z ≡ k % 2
unfolding hint_of
hint-is z k l h = parity-is q (2 * z) k l h

pub hint-below : (z : ℕ) → hint_of z < 2
unfolding hint_of
hint-below z = mod-lt _ (omega arith)

pub key-low : (z : ℕ) → z < 2147483648 → key_of z ≡ 0
unfolding key_of
key-low z h = rw (lt-leb 2147483648 z h)

pub key-middle : (z : ℕ) → 2147483648 ≤ z → z < 6442450943 → key_of z ≡ 1
unfolding key_of
key-middle z l h = rw (le-leb 2147483648 z l, le-leb z 6442450942 (omega arith))

pub key-high : (z : ℕ) → 6442450943 ≤ z → key_of z ≡ 0
unfolding key_of
key-high z l = rw (le-leb 2147483648 z (omega arith), lt-leb z 6442450942 l)

pub key_below : (z : ℕ) → key_of z < 2
unfolding key_of
key_below z = cond-all (λ (n : ℕ). n < 2) (both (leb 2147483648 z) (leb z 6442450942)) (omega arith) (omega arith)

pub data Region (z : ℕ) : Type 0 where
  first : z < 2147483648 → hint_of z ≡ 0 → key_of z ≡ 0 → Region z
  second : 2147483648 ≤ z → z < q → hint_of z ≡ 1 → key_of z ≡ 1 → Region z
  third : q ≤ z → z < 6442450943 → hint_of z ≡ 0 → key_of z ≡ 1 → Region z
  fourth : 6442450943 ≤ z → hint_of z ≡ 1 → key_of z ≡ 0 → Region z

pub region : (z : ℕ) → z < 2 * q → Region z
region z u = go (dec_lt z 2147483648) (dec_lt z q) (dec_lt z 6442450943)
  where
    go : Dec (z < 2147483648) → Dec (z < q) → Dec (z < 6442450943) → Region z
    go (yes a) b c = first a (hint-is z 0 (omega arith) (omega arith)) (key-low z a)
    go (no a) (yes b) c = second (omega arith) b (hint-is z 1 (omega arith) (omega arith)) (key-middle z (omega arith) (omega arith))
    go (no a) (no b) (yes c) = third (omega arith) c (hint-is z 2 (omega arith) (omega arith)) (key-middle z (omega arith) c)
    go (no a) (no b) (no c) = fourth (omega arith) (hint-is z 3 (omega arith) (omega arith)) (key-high z (omega arith))

pub formula-is : (h w k : ℕ) → k * 2147483648 ≤ w + (1 + 2 * h) * 536870912 → w + (1 + 2 * h) * 536870912 < (k + 1) * 2147483648 → formula_of h w ≡ k % 2
formula-is h w k l u = parity-is 2147483648 (w + (1 + 2 * h) * 536870912) k l u

module _ (z w : ℕ) (u : z < 2 * q) (b : w < q) where
  near-region : Region z → Close (2 * q) 1073741823 (2 * w) z → formula_of (hint_of z) w ≡ key_of z
  near-region (first i e f) (direct k l) = formula-is (hint_of z) w 0 (omega arith) (omega arith) ∙ sym f
  near-region (first i e f) (over k) = absurd (omega arith)
  near-region (first i e f) (under k) = formula-is (hint_of z) w 2 (omega arith) (omega arith) ∙ sym f
  near-region (second i j e f) (direct k l) = formula-is (hint_of z) w 1 (omega arith) (omega arith) ∙ sym f
  near-region (second i j e f) (over k) = absurd (omega arith)
  near-region (second i j e f) (under k) = absurd (omega arith)
  near-region (third i j e f) (direct k l) = formula-is (hint_of z) w 1 (omega arith) (omega arith) ∙ sym f
  near-region (third i j e f) (over k) = absurd (omega arith)
  near-region (third i j e f) (under k) = absurd (omega arith)
  near-region (fourth i e f) (direct k l) = formula-is (hint_of z) w 2 (omega arith) (omega arith) ∙ sym f
  near-region (fourth i e f) (over k) = formula-is (hint_of z) w 0 (omega arith) (omega arith) ∙ sym f
  near-region (fourth i e f) (under k) = absurd (omega arith)

  pub near_same : Close (2 * q) 1073741823 (2 * w) z → formula_of (hint_of z) w ≡ key_of z
  near_same n = near-region (region z u) n
