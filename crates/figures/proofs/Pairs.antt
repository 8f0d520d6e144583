-- How often each noise value of NewHope comes out: `Binomial` of `specs/Frequencies.antt`.
--   ones-sum       a sum over words of n + 1 bits, by the ones in the words of n bits
--   ones-count     k ones in choose n k of the words of n bits
--   pair-count     k ones in choose (n + m) k of the pairs of words of n and m bits
--   binomial       for words of n bits
use Rattle.lists.proofs.Kit.{refl, ◌∙◌, sym, ap, ap₂, Bool, true, false, cond, ℕ, zero, suc, arith, ℕ_discrete, pow-suc}
use Rattle.std.proofs.Common.{◌≡◌, ◌+◌, ◌*◌, ◌/◌, ◌%◌, ◌^◌, ◌-ℤ◌}
use Rattle.lists.proofs.Kit.{add-zero, add-suc, eqb-true, eq-eqb, ne_eqb, eqb, eqb·zero-suc, eqb·suc-zero, eqb·suc-suc, ℤ, pos, negsuc}
use lib.Count.{ones, ones_in, ones_step, ones-le}
use Rattle.numbers.specs.Sum.{sum, sum_ℕ}
use Rattle.numbers.proofs.Difference.{diff, pos-sub, diff-≡, diff-inj}
use Rattle.numbers.proofs.Sums.{natural, sum-ext, sum-add, sum-none, sum-double}
use Rattle.figures.specs.Frequencies.{how_often, same, choose, pairs, Binomial}

-- ---- words, by their ones

even-ones : (j : ℕ) → ones (2 * j) ≡ ones j
even-ones j =
    let e : 2 * j % 2 ≡ 0 = omega arith in
    let d : 2 * j / 2 ≡ j = omega arith in
    ones_step (2 * j) ∙ ap₂ (λ (a b : ℕ). a + ones b) e d ∙ omega arith

odd-ones : (j : ℕ) → ones (2 * j + 1) ≡ suc (ones j)
odd-ones j =
    let e : (2 * j + 1) % 2 ≡ 1 = omega arith in
    let d : (2 * j + 1) / 2 ≡ j = omega arith in
    ones_step (2 * j + 1) ∙ ap₂ (λ (a b : ℕ). a + ones b) e d ∙ omega arith

pub ones-sum : (n : ℕ) (f : ℕ → ℕ) → sum_ℕ (2 ^ suc n) (λ w. f (ones w)) ≡ sum_ℕ (2 ^ n) (λ w. f (ones w)) + sum_ℕ (2 ^ n) (λ w. f (suc (ones w)))
ones-sum n f =
    let p : 2 ^ suc n ≡ 2 * 2 ^ n = pow-suc 2 n ∙ omega arith in
    ap (λ (k : ℕ). sum_ℕ k (λ w. f (ones w))) p
    ∙ sum-double natural (2 ^ n) (λ w. f (ones w))
    ∙ ap₂ (λ (a b : ℕ). a + b)
    (sum-ext natural (2 ^ n) _ _ (λ j h. ap f (even-ones j)))
    (sum-ext natural (2 ^ n) _ _ (λ j h. ap f (odd-ones j)))

-- the one word of no bits
no_bits : (f : ℕ → ℕ) → sum_ℕ (2 ^ 0) (λ w. f (ones w)) ≡ f 0
unfolding sum ones ones_in
no_bits f = omega arith

abbrev pub is : ℕ → ℕ → ℕ
is a k = cond (eqb a k) 1 0

choose-none : (n : ℕ) → choose n zero ≡ 1
unfolding choose
choose-none zero = refl
choose-none (suc n) = refl

pub ones-count : (n k : ℕ) → sum_ℕ (2 ^ n) (λ w. is (ones w) k) ≡ choose n k
unfolding choose
ones-count zero zero = no_bits (λ a. cond (eqb a 0) 1 0)
ones-count zero (suc k) = no_bits (λ a. cond (eqb a (suc k)) 1 0) ∙ ap (λ (b : Bool). cond b 1 0) (eqb·zero-suc k)
ones-count (suc n) zero =
    ones-sum n (λ a. cond (eqb a 0) 1 0)
    ∙ ap₂ (λ (a b : ℕ). a + b)
    (ones-count n zero ∙ choose-none n)
    (sum-none natural (2 ^ n) _ (λ w h. ap (λ (b : Bool). cond b 1 0) (eqb·suc-zero (ones w))))
ones-count (suc n) (suc k) =
    ones-sum n (λ a. cond (eqb a (suc k)) 1 0)
    ∙ ap₂ (λ (a b : ℕ). a + b)
    (ones-count n (suc k))
    (sum-ext natural (2 ^ n) _ _ (λ w h. ap (λ (b : Bool). cond b 1 0) (eqb·suc-suc (ones w) k)) ∙ ones-count n k)
    ∙ omega arith

-- ---- pairs of words

is-suc : (a b c d : ℕ) → a ≡ suc c → b ≡ suc d → is a b ≡ is c d
is-suc a b c d e f = ap₂ (λ (x y : ℕ). is x y) e f ∙ ap (λ (t : Bool). cond t 1 0) (eqb·suc-suc c d)

-- the first word's ones and the second word's noughts
unfoldable pub tally : ℕ → ℕ → ℕ → ℕ
tally n m k = sum_ℕ (2 ^ n) (λ v. sum_ℕ (2 ^ m) (λ w. is (ones v + m) (ones w + k)))

-- one bit more in the second word
tally-more : (n m k : ℕ)
    → tally n (suc m) k ≡ sum_ℕ (2 ^ n) (λ v. sum_ℕ (2 ^ m) (λ w. is (ones v + suc m) (ones w + k))) + tally n m k
unfolding tally
tally-more n m k =
    sum-ext natural (2 ^ n) _ _ (λ v h.
    ones-sum m (λ a. is (ones v + suc m) (a + k))
    ∙ ap (λ (x : ℕ). sum_ℕ (2 ^ m) (λ w. is (ones v + suc m) (ones w + k)) + x)
    (sum-ext natural (2 ^ m) _ _ (λ w l. is-suc (ones v + suc m) (suc (ones w) + k) (ones v + m) (ones w + k) (omega arith) (omega arith))))
    ∙ sum-add natural (2 ^ n) (λ v. sum_ℕ (2 ^ m) (λ w. is (ones v + suc m) (ones w + k))) (λ v. sum_ℕ (2 ^ m) (λ w. is (ones v + m) (ones w + k)))

pub pair-count : (n m k : ℕ) → tally n m k ≡ choose (n + m) k
unfolding tally choose
pair-count n zero k =
    sum-ext natural (2 ^ n) _ _ (λ v h.
    let e : ones v + 0 ≡ ones v = omega arith in
    let f : 0 + k ≡ k = omega arith in
    no_bits (λ a. is (ones v + 0) (a + k)) ∙ ap₂ (λ (x y : ℕ). is x y) e f)
    ∙ ones-count n k
    ∙ ap (λ (j : ℕ). choose j k) (sym (add-zero n))
pair-count n (suc m) zero =
    tally-more n m zero
    ∙ ap₂ (λ (a b : ℕ). a + b)
    (sum-none natural (2 ^ n) _ (λ v h. sum-none natural (2 ^ m) _ (λ w l.
    ap (λ (t : Bool). cond t 1 0) (ne_eqb (ones v + suc m) (ones w + 0) (λ e. omega (arith, ones-le m w l))))))
    (pair-count n m zero ∙ choose-none (n + m))
    ∙ sym (choose-none (n + suc m))
pair-count n (suc m) (suc k) =
    tally-more n m (suc k)
    ∙ ap₂ (λ (a b : ℕ). a + b)
    (sum-ext natural (2 ^ n) _ _ (λ v h. sum-ext natural (2 ^ m) _ _ (λ w l.
    is-suc (ones v + suc m) (ones w + suc k) (ones v + m) (ones w + k) (omega arith) (omega arith)))
    ∙ pair-count n m k)
    (pair-count n m (suc k))
    ∙ ap (λ (j : ℕ). choose j (suc k)) (sym (add-suc n m))

-- ---- differences of ones

same_refl : (z : ℤ) → same z z ≡ true
same_refl (pos n) = eq-eqb n n refl
same_refl (negsuc n) = eq-eqb n n refl

same_true : (y z : ℤ) → same y z ≡ true → y ≡ z
same_true (pos m) (pos n) e = ap pos (eqb-true m n e)
same_true (negsuc m) (negsuc n) e = ap negsuc (eqb-true m n e)
same_true (pos m) (negsuc n) e = let x : ◌≡◌ {A = ℕ} 0 1 = cc in absurd (omega arith)
same_true (negsuc m) (pos n) e = let x : ◌≡◌ {A = ℕ} 0 1 = cc in absurd (omega arith)

not-true : (b : Bool) → (b ≡ true → ⊥) → b ≡ false
not-true true f = absurd (f refl)
not-true false f = refl

same-less : (a b c d : ℕ) → same (pos a -ℤ pos b) (pos c -ℤ pos d) ≡ eqb (a + d) (b + c)
same-less a b c d = ap₂ same (pos-sub a b) (pos-sub c d) ∙ go (ℕ_discrete (a + d) (b + c))
  where
    go : Dec (a + d ≡ b + c) → same (diff a b) (diff c d) ≡ eqb (a + d) (b + c)
    go (yes e) = ap (λ (z : ℤ). same z (diff c d)) (diff-≡ a b c d (omega arith)) ∙ same_refl (diff c d) ∙ sym (eq-eqb (a + d) (b + c) e)
    go (no e) =
        not-true (same (diff a b) (diff c d)) (λ t. e (omega (arith, diff-inj a b c d (same_true (diff a b) (diff c d) t))))
        ∙ sym (ne_eqb (a + d) (b + c) e)

pub binomial : (n : ℕ) → Binomial n
unfolding pairs how_often tally
binomial n =
    record {
      often = λ k.
          sum-ext natural (2 ^ n) _ _ (λ v h. sum-ext natural (2 ^ n) _ _ (λ w l. ap (λ (t : Bool). cond t 1 0) (same-less (ones v) (ones w) k n)))
          ∙ pair-count n n k;
      never = λ k g.
          sum-none natural (2 ^ n) _ (λ v h. sum-none natural (2 ^ n) _ (λ w l.
          ap (λ (t : Bool). cond t 1 0) (same-less (ones v) (ones w) 0 k ∙ ne_eqb (ones v + k) (ones w + 0) (λ e. omega (arith, ones-le n w l)))));
    }
