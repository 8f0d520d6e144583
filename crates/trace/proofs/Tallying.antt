-- The counters after a trace are those of its exchanges.
--   text_after ts r           the text, where the counters are ts and r is still to come
--   run_end, run-over, run_more, run-other   at the end, over the limit, with one exchange more, and with other text
--   answer-is                from zeros on it is the answer
--   zeros, put               the counters before, and with one exchange more
--   held_none, held_more     how large they are: before, and after one exchange more
use Rattle.lists.proofs.Kit.{refl, sym, ap, Bool, true, false, cond, List, [], ℕ, zero, suc, max, arith, eqb, length}
use Rattle.std.proofs.Common.{◌≡◌, ◌∷◌, ◌+◌, ◌*◌, ◌≤◌, ◌<◌}
use Rattle.lists.proofs.Kit.{get_or, set, replicate, length-set, get_or-set_same, get_or-set_other, get_or-replicate, dec_lt, List·getD-eq-default, eqb-true, eqb-false}
use Rattle.lists.specs.First.{largest_by}
use Rattle.lists.proofs.Table.{cond-all}
use Rattle.text.specs.Text.{line, refusal_name}
use Rattle.trace.specs.Trace.{Exchange, two, neither, two_in, Trace, recorded, unread, more, recorded_in, slacks_of, total, block_of, summary, answer_to, answered}
use Rattle.trace.specs.Steps.{none, added, Held, block_at, summary_of, Tally}
use Rattle.trace.specs.Exactly.{Valid, none as no_more, some}
use Rattle.trace.proofs.Exactly.{no_other}

-- ---- all exchanges, one after the other

-- one exchange more, of scheme a with the slack b
abbrev pub put : List Tally → ℕ → ℕ → List Tally
put ts a b = set ts a (added (get_or ts a none) b)

add_all : List Tally → List Exchange → List Tally
add_all ts [] = ts
add_all ts (y ∷ ys) = add_all (put ts y.scheme y.slack) ys

-- the text, where the counters are ts and r is still to come
pub text_after : List Tally → Trace → List ℕ
text_after ts (recorded ys) = summary_of (add_all ts ys)
text_after ts unread = line refusal_name 8

after_more : (ts : List Tally) (a b : ℕ) (r : Trace) → text_after ts (more a b r) ≡ text_after (put ts a b) r
unfolding text_after add_all
after_more ts a b (recorded ys) = refl
after_more ts a b unread = refl

pub run_end : (k : ℕ) (ts : List Tally) → text_after ts (recorded_in k []) ≡ summary_of ts
unfolding recorded_in text_after add_all
run_end zero ts = refl
run_end (suc k) ts = refl

pub run-over : (xs : List ℕ) (ts : List Tally) → 0 < length xs → text_after ts (recorded_in zero xs) ≡ line refusal_name 8
unfolding recorded_in text_after
run-over [] ts h = absurd (omega arith)
run-over (c ∷ cs) ts h = refl

pub run_more : {a b : ℕ} {ys : List ℕ} (k : ℕ) (xs : List ℕ) (ts : List Tally) → 0 < length xs → two_in xs ≡ two a b ys
    → text_after ts (recorded_in (suc k) xs) ≡ text_after (put ts a b) (recorded_in k ys)
unfolding recorded_in
run_more k [] ts h e = absurd (omega arith)
run_more {a} {b} {ys} k (c ∷ cs) ts h e = rw e (after_more ts a b (recorded_in k ys))

pub run-other : (k : ℕ) (xs : List ℕ) (ts : List Tally) → 0 < length xs → two_in xs ≡ neither
    → text_after ts (recorded_in (suc k) xs) ≡ line refusal_name 8
unfolding recorded_in text_after
run-other k [] ts h e = absurd (omega arith)
run-other k (c ∷ cs) ts h e = rw e

-- ---- the counters of each scheme

put_at : (ts : List Tally) (a b j : ℕ) → a < length ts
    → get_or (put ts a b) j none ≡ cond (eqb a j) (added (get_or ts j none) b) (get_or ts j none)
put_at ts a b j h = go (eqb a j) refl
  where
    go : (t : Bool) → eqb a j ≡ t → get_or (put ts a b) j none ≡ cond t (added (get_or ts j none) b) (get_or ts j none)
    go true e = rw (← eqb-true a j e) (get_or-set_same ts a (added (get_or ts a none) b) none h)
    go false e = get_or-set_other ts a j (added (get_or ts a none) b) none (λ z. eqb-false a j e (sym z))

-- the counters of scheme j in us are those in ts with the slacks zs besides
record Sums (ts us : List Tally) (zs : List ℕ) (j : ℕ) : Type 0 where
  count-is : (get_or us j none).count ≡ (get_or ts j none).count + length zs
  sum_is : (get_or us j none).sum ≡ (get_or ts j none).sum + total zs
  largest-is : (get_or us j none).largest ≡ max (get_or ts j none).largest (largest_by (λ x. x) zs)

module _ (ts us : List Tally) (a b j : ℕ) (zs : List ℕ) (l : a < length ts) (h : Sums (put ts a b) us zs j) where
  sums-step : (e : Bool) → eqb a j ≡ e → Sums ts us (cond e (b ∷ zs) zs) j
  unfolding total largest_by
  sums-step true q =
      let w : get_or (put ts a b) j none ≡ added (get_or ts j none) b = rw q at (put_at ts a b j l) in
      record {
        count-is = omega (arith, h.count-is, ap (λ (t : Tally). t.count) w);
        sum_is = omega (arith, h.sum_is, ap (λ (t : Tally). t.sum) w);
        largest-is = omega (arith, h.largest-is, ap (λ (t : Tally). t.largest) w);
      }
  sums-step false q =
      let w : get_or (put ts a b) j none ≡ get_or ts j none = rw q at (put_at ts a b j l) in
      record {
        count-is = omega (arith, h.count-is, ap (λ (t : Tally). t.count) w);
        sum_is = omega (arith, h.sum_is, ap (λ (t : Tally). t.sum) w);
        largest-is = omega (arith, h.largest-is, ap (λ (t : Tally). t.largest) w);
      }

sums-all : (ts : List Tally) {ys : List Exchange} → length ts ≡ 6 → Valid ys → (j : ℕ) → Sums ts (add_all ts ys) (slacks_of j ys) j
unfolding add_all slacks_of total largest_by
sums-all ts l no_more j = record { count-is = omega arith; sum_is = omega arith; largest-is = omega arith }
sums-all ts l (some {y} {ys} a b v) j =
    let us = put ts y.scheme y.slack in
    let m : length us ≡ 6 = rw length-set l in
    sums-step ts (add_all us ys) y.scheme y.slack j (slacks_of j ys) (omega arith) (sums-all us m v j) (eqb y.scheme j) refl

abbrev pub zeros : List Tally
zeros = replicate 6 none

zero_at : (j : ℕ) → get_or zeros j none ≡ none
zero_at j = go (dec_lt j 6)
  where
    go : Dec (j < 6) → get_or zeros j none ≡ none
    go (yes l) = get_or-replicate 6 j none none l
    go (no l) = List·getD-eq-default zeros none {n = j} (omega arith)

module _ {ys : List Exchange} (v : Valid ys) where
  block-is : (j : ℕ) → block_at (add_all zeros ys) j ≡ block_of j ys
  unfolding block_of
  block-is j =
      let s = sums-all zeros refl v j in
      let o : get_or zeros j none ≡ none = zero_at j in
      let c : (get_or (add_all zeros ys) j none).count ≡ length (slacks_of j ys) = omega (arith, s.count-is, ap (λ (t : Tally). t.count) o) in
      let m : (get_or (add_all zeros ys) j none).sum ≡ total (slacks_of j ys) = omega (arith, s.sum_is, ap (λ (t : Tally). t.sum) o) in
      let g : (get_or (add_all zeros ys) j none).largest ≡ largest_by (λ x. x) (slacks_of j ys) =
      omega (arith, s.largest-is, ap (λ (t : Tally). t.largest) o) in
      rw (c, m, g)

  summary-is : summary_of (add_all zeros ys) ≡ summary ys
  unfolding summary_of summary
  summary-is = rw (block-is 0, block-is 1, block-is 2, block-is 3, block-is 4, block-is 5)

pub answer-is : (xs : List ℕ) → text_after zeros (recorded_in 2048 xs) ≡ answered xs
unfolding answered answer_to text_after
answer-is xs = go (recorded_in 2048 xs) refl
  where
    go : (r : Trace) → recorded_in 2048 xs ≡ r → text_after zeros r ≡ answer_to r
    go (recorded ys) e = summary-is (no_other 2048 xs ys e).valid
    go unread e = refl

-- ---- how large the counters are

pub held_none : Held 0 zeros
held_none =
    record {
      six = refl;
      few = λ j. omega (arith, ap (λ (t : Tally). t.count) (zero_at j));
      small = λ j. omega (arith, ap (λ (t : Tally). t.sum) (zero_at j));
    }

pub held_more : {n : ℕ} (ts : List Tally) (a b : ℕ) → Held n ts → a ≤ 5 → b < 10000000000 → Held (n + 1) (put ts a b)
held_more {n} ts a b h p l =
    record {
      six = rw length-set h.six;
      few =
          λ j.
          rw (put_at ts a b j (omega (arith, h.six)))
          (cond-all (λ (t : Tally). t.count ≤ n + 1) (eqb a j) (omega (arith, h.few j)) (omega (arith, h.few j)));
      small =
          λ j.
          rw (put_at ts a b j (omega (arith, h.six)))
          (cond-all (λ (t : Tally). t.sum ≤ (n + 1) * 10000000000) (eqb a j) (omega (arith, h.small j)) (omega (arith, h.small j)));
    }
