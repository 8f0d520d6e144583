-- The steps of a call.
--   blank-front                      the part at the front of a zeroed output
--   front-is, front_fits             what a step has left at the front of an array: what it is, and that it is all there
--   kept                             a part that a step has left as it was, where it refused
--   laid_on, put-kept                what a step has left of the part that it is lent: where it refused nothing; and where tests fail, whatever is made ahead of them
--   outcome-slack, outcome-refused   what a step hands on, by its verdict; passed-by, failed-by: and back
use Rattle.std.proofs.Common.{Ok, Err, Result, ◌≡◌, ◌++◌, ◌≤◌}
use Rattle.lists.proofs.Kit.{refl, ◌∙◌, ap, List, ℕ, arith, length, take, drop, replicate, length-append, take-append-drop, take_at}
use Rattle.lists.specs.declared.Peak.{Peak}
use Rattle.lists.proofs.Same.{take_same}
use Rattle.refusals.specs.{Refusals.◌then◌, Refusals.Refusal, Refusals.Verdict, Refusals.pass, Seen.if_passed, Steps.outcome}

pub blank-front : {A : Type 0} (n : ℕ) (z : A) (l : List A) → n ≤ length l → l ≡ replicate (length l) z → take n l ≡ replicate n z
blank-front n z l h e = ap (take n) e ∙ take_same n (length l) z h

module _ {A : Type 0} (n : ℕ) {xs ys : List A} (e : xs ≡ ys) (l : length ys ≡ n) (rest : List A) where
  pub front-is : take n (xs ++ rest) ≡ ys
  front-is = take_at xs rest n (ap length e ∙ l) ∙ e

  pub front_fits : n ≤ length (xs ++ rest)
  front_fits = omega (arith, ap length e, l, length-append xs rest)

pub kept : {A : Type 0} (xs : List A) {w : Verdict} {r : Refusal} (k : ℕ) (old : List A) {part : List A} → w ≡ Err r → part ≡ if_passed w xs (take k old)
    → part ++ drop k old ≡ old
kept {A} xs k old f p = let q = rw f at p in ap (λ (t : List A). t ++ drop k old) q ∙ take-append-drop k old

pub laid_on : {v : Verdict} (xs old : List ℕ) {out : List ℕ} → v ≡ pass → out ≡ if_passed v xs old → out ≡ xs
laid_on xs old e p = p ∙ ap (λ (u : Verdict). if_passed u xs old) e

-- tests p ahead of some that fail
pub put-kept : {A : Type 0} (p : Verdict) {r w : Verdict} {t : Refusal} (xs : List A) {old : List A} → r ≡ p then w → w ≡ Err t → old ≡ if_passed r xs old
unfolding ◌then◌
put-kept (Ok _) xs e f = rw (e, f)
put-kept (Err s) xs e f = rw e

pub outcome-slack : {v : Verdict} → v ≡ pass → (p : Peak) → outcome v p ≡ Ok p
outcome-slack e p = rw e

pub outcome-refused : {v : Verdict} {r : Refusal} → v ≡ Err r → (p : Peak) → outcome v p ≡ Err r
outcome-refused e p = rw e

pub passed-by : (v : Verdict) (p : Peak) {q : Peak} {o : Result Peak Refusal} → o ≡ outcome v p → o ≡ Ok q → (v ≡ pass) × (q ≡ p)
passed-by (Ok _) p e f = (refl, cc)
passed-by (Err r) p e f = let z : ◌≡◌ {A = ℕ} 0 1 = cc in absurd (omega arith)

pub failed-by : (v : Verdict) (p : Peak) {r : Refusal} {o : Result Peak Refusal} → o ≡ outcome v p → o ≡ Err r → v ≡ Err r
failed-by (Ok _) p e f = let z : ◌≡◌ {A = ℕ} 0 1 = cc in absurd (omega arith)
failed-by (Err s) p e f = cc
