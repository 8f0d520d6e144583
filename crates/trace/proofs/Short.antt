-- How long texts are (`specs/Exactly.antt`).
--   answered-short   an answer has at most 372 bytes: 2,048 exchanges, slacks below 10^10, sums below 10^14
--   enough           a trace has at most 53,248 bytes, so the first 53,249 of a text tell
use Rattle.lists.proofs.Kit.{refl, ◌∙◌, sym, ap, Bool, true, false, cond, List, [], ℕ, suc, dec_le, arith, eqb, length, take, length-append, length-take, take_all}
use Rattle.std.proofs.Common.{◌≡◌, ◌∷◌, ◌++◌, ◌*◌, ◌^◌, ◌≤◌, ◌<◌}
use Rattle.lists.specs.First.{largest_by}
use Rattle.text.specs.Text.{scheme_name, line}
use Rattle.text.proofs.{Numeral.decimal-length, Writing.line-length}
use Rattle.trace.specs.Trace.{exchanges_name, sum_name, largest_name, Exchange, traced, Trace, recorded, unread, recorded_in, slacks_of, total, block, block_of}
use Rattle.trace.specs.Trace.{summary, answer_to, answered}
use Rattle.trace.specs.Exactly.{Valid, none, some, Short, bytes, Enough}
use Rattle.trace.proofs.Exactly.{no_other}

-- the slacks zs of at most n exchanges
record Small (n : ℕ) (zs : List ℕ) : Type 0 where
  few : length zs ≤ n
  sum : total zs ≤ n * 10000000000
  top : largest_by (λ x. x) zs < 10000000000

small-more : {n x : ℕ} {zs : List ℕ} → x < 10 ^ 10 → Small n zs → Small (suc n) (x ∷ zs)
unfolding total largest_by
small-more l h = record { few = omega (arith, h.few); sum = omega (arith, h.sum); top = omega (arith, h.top) }

small-pick : {n x : ℕ} {zs : List ℕ} (t : Bool) → x < 10 ^ 10 → Small n zs → Small (suc n) (cond t (x ∷ zs) zs)
small-pick true l h = small-more l h
small-pick false l h = record { few = omega (arith, h.few); sum = omega (arith, h.sum); top = h.top }

small_all : {ys : List Exchange} → Valid ys → (j : ℕ) → Small (length ys) (slacks_of j ys)
unfolding slacks_of total largest_by
small_all none j = record { few = omega arith; sum = omega arith; top = omega arith }
small_all (some {y} {ys} a b v) j = small-pick (eqb y.scheme j) b (small_all v j)

block-short : (s n m g : ℕ) → s < 10 → n < 10 ^ 4 → m < 10 ^ 14 → g < 10 ^ 10 → length (block s n m g) ≤ 62
unfolding block
block-short s n m g a b c d = go (eqb n 0)
  where
    go : (t : Bool) → length (cond t [] (line scheme_name s ++ (line exchanges_name n ++ (line sum_name m ++ line largest_name g)))) ≤ 62
    go true = omega arith
    go false =
        simp (length-append, line-length)
        (omega
        (arith, decimal-length 0 s a (omega arith), decimal-length 3 n b (omega arith), decimal-length 13 m c (omega arith), decimal-length 9 g d (omega arith)))

block-fits : {ys : List Exchange} → Valid ys → length ys ≤ 2048 → (j : ℕ) → j < 10 → length (block_of j ys) ≤ 62
unfolding block_of
block-fits {ys} v l j h =
    let s = small_all v j in
    block-short j (length (slacks_of j ys)) (total (slacks_of j ys)) (largest_by (λ x. x) (slacks_of j ys)) h (omega (arith, s.few))
    (omega (arith, s.sum)) (omega (arith, s.top))

summary-short : {ys : List Exchange} → Valid ys → length ys ≤ 2048 → length (summary ys) ≤ 372
unfolding summary
summary-short {ys} v l =
    let b : (j : ℕ) → j < 10 → length (block_of j ys) ≤ 62 = block-fits v l in
    simp length-append
    (omega (arith, b 0 (omega arith), b 1 (omega arith), b 2 (omega arith), b 3 (omega arith), b 4 (omega arith), b 5 (omega arith)))

pub answered-short : Short
unfolding answered answer_to
answered-short xs = go (recorded_in 2048 xs) refl
  where
    go : (r : Trace) → recorded_in 2048 xs ≡ r → length (answer_to r) ≤ 372
    go (recorded ys) e = let i = no_other 2048 xs ys e in summary-short i.valid i.few
    go unread e = rw line-length (omega (arith, decimal-length 0 8 (omega arith) (omega arith)))

-- ---- how long a trace is

traced-short : {ys : List Exchange} → Valid ys → length (traced ys) ≤ 26 * length ys
unfolding traced
traced-short none = omega arith
traced-short (some {y} {ys} a b v) =
    simp (length-append, line-length)
    (omega (arith, decimal-length 0 y.scheme (omega arith) (omega arith), decimal-length 9 y.slack b (omega arith), traced-short v))

long : (xs : List ℕ) → 53248 < length xs → recorded_in 2048 xs ≡ unread
long xs h = go (recorded_in 2048 xs) refl
  where
    go : (r : Trace) → recorded_in 2048 xs ≡ r → r ≡ unread
    go (recorded ys) e =
        let i = no_other 2048 xs ys e in
        absurd (omega (arith, ap length i.text, traced-short i.valid, i.few))
    go unread e = refl

pub enough : Enough
unfolding answered
enough xs = go (dec_le (length xs) bytes)
  where
    go : Dec (length xs ≤ bytes) → answered (take bytes xs) ≡ answered xs
    go (yes l) = ap answered (take_all bytes xs l)
    go (no l) = ap answer_to (long (take bytes xs) (rw length-take (omega arith)) ∙ sym (long xs (omega arith)))
