-- What a caller sees of a call.
--   written-passed, written-failed    an output where nothing is refused, written into z; and where a test has failed
--   written-restored                  after a refusal, where a part was written before and zeroed again
--   written-answer, written-whole     where nothing is refused, its front is the answer; and all of it is, where the answer fills it
--   written-length, written_all       it is as long as it was; what holds of each entry of the answer and of z holds of all of it
--   shown-passed, shown-failed        a call with one output
--   shown-restored                    after a refusal, where a part of that output was written before and zeroed again
--   seen_done, seen-refused           what is seen without a refusal says that the tests have passed; what is seen of a refusal, that the output is zero
--   same-counts, same-refused, never_both   what an answer's numbers say: of two without a refusal, of two refusals, and of one of each
--   one, seen_all, told-all           what follows
use Rattle.std.proofs.Common.{Ok, Err, ◌≡◌, ◌++◌, ◌-◌, ◌≤◌}
use Rattle.lists.proofs.Kit.{refl, sym, ◌∙◌, ap, List, append-nil, ℕ, zero, suc, sub-zero, zero-sub, suc-sub-suc, arith, length, take}
use Rattle.lists.proofs.Kit.{drop, replicate, get_or, length-replicate, length-append, take-append_seam}
use Rattle.lists.proofs.Same.{restored, append-all, equal-all}
use Rattle.refusals.specs.Seen.{output, written, answer, Told, done, refused, Seen, shown, seen, One, SeenAll, ToldAll}
use Rattle.refusals.specs.Refusals.{number_of, Refusal, Verdict, pass}
use Rattle.refusals.proofs.{Laws.some, Laws.number-zero, Same.same-refusal}

drop-zeros : {A : Type 0} (z : A) (m n : ℕ) → drop m (replicate n z) ≡ replicate (n - m) z
drop-zeros z zero n = simp sub-zero
drop-zeros z (suc m) zero = simp zero-sub
drop-zeros z (suc m) (suc n) = drop-zeros z m n ∙ simp suc-sub-suc

module _ {A : Type 0} (xs : List A) (z : A) (room : ℕ) {v : Verdict} (e : v ≡ pass) where
  pub written-passed : {n : ℕ} {out : List A} (old : List A) → length xs ≡ n → old ≡ replicate room z → out ≡ xs ++ drop n old
      → output n out ≡ written v xs z room
  unfolding written
  written-passed {n} old l o w = rw (w, o, drop-zeros z n room, e, l)

  pub shown-passed : {n : ℕ} {out : List A} (old : List A) → length xs ≡ n → old ≡ replicate room z → out ≡ xs ++ drop n old
      → seen (done n) out ≡ shown v xs z room
  unfolding shown seen
  shown-passed old l o w = rw (← written-passed old l o w, e)

  pub written-answer : answer (written v xs z room) ≡ xs
  unfolding written
  written-answer = rw e (take-append_seam xs _)

  pub written-whole : length xs ≡ room → written v xs z room ≡ output room xs
  unfolding written
  written-whole l = let s : room - length xs ≡ 0 = omega arith in rw (e, s, append-nil xs, l)

module _ {A : Type 0} (xs : List A) (z : A) (room : ℕ) {v : Verdict} {r : Refusal} (e : v ≡ Err r) where
  pub written-failed : {out : List A} → out ≡ replicate room z → output 0 out ≡ written v xs z room
  unfolding written
  written-failed o = rw (e, o)

  -- n entries were written, and then zeroed
  pub written-restored : {n : ℕ} (old part : List A) {zs : List A} → old ≡ replicate room z → n ≤ room → length part ≡ n
      → zs ≡ replicate (length (take n (part ++ drop n old))) z → output 0 (zs ++ drop n (part ++ drop n old)) ≡ written v xs z room
  written-restored {n} old part {zs} o h l w = written-failed (restored n room z old part zs o h l w)

  pub shown-failed : {out : List A} → out ≡ replicate room z → seen (refused r 0) out ≡ shown v xs z room
  unfolding shown seen
  shown-failed o = rw (← written-failed o, e)

  pub shown-restored : {n : ℕ} (old part : List A) {zs : List A} → old ≡ replicate room z → n ≤ room → length part ≡ n
      → zs ≡ replicate (length (take n (part ++ drop n old))) z → seen (refused r 0) (zs ++ drop n (part ++ drop n old)) ≡ shown v xs z room
  shown-restored {n} old part {zs} o h l w = shown-failed (restored n room z old part zs o h l w)

module _ {A : Type 0} (xs : List A) (z : A) (room : ℕ) where
  pub seen_done : (v : Verdict) (n : ℕ) (out : List A) → seen (done n) out ≡ shown v xs z room → v ≡ pass
  unfolding seen shown
  seen_done v n out e = number-zero v (ap (λ (s : Seen A). s.number) e)

  pub seen-refused : (v : Verdict) (r : Refusal) (n : ℕ) {out : List A} → seen (refused r n) out ≡ shown v xs z room → out ≡ replicate room z
  unfolding seen shown written
  seen-refused (Ok _) r n e = let n : number_of r ≡ 0 = ap (λ (s : Seen A). s.number) e in absurd (omega (arith, some r))
  seen-refused (Err s) r n e = ap (λ (s : Seen A). s.out.holds) e

module _ {A : Type 0} (z : A) where
  pub written-length : (v : Verdict) (xs : List A) (room : ℕ) → length xs ≤ room → length (written v xs z room).holds ≡ room
  unfolding written
  written-length (Ok _) xs room h = length-append xs (replicate (room - length xs) z) ∙ omega (arith, length-replicate (room - length xs) z)
  written-length (Err r) xs room h = length-replicate room z

  pub written_all : (P : A → Type 0) (v : Verdict) (xs : List A) (room : ℕ) → P z → (v ≡ pass → (k : ℕ) → P (get_or xs k z)) → (k : ℕ)
      → P (get_or (written v xs z room).holds k z)
  unfolding written
  written_all P (Ok _) xs room o h = append-all P z xs (replicate (room - length xs) z) (h refl) (equal-all P z (room - length xs) o)
  written_all P (Err r) xs room o h = equal-all P z room o

pub one : One
one A promised s t e f = e ∙ sym f

pub seen_all : SeenAll
unfolding seen
seen_all A t t' out out' e = (
  ap (λ (s : Seen A). s.number) e,
  ap (λ (s : Seen A). s.place) e,
  ap (λ (s : Seen A). s.out.count) e,
  ap (λ (s : Seen A). s.out.holds) e,
)

module _ {A : Type 0} where
  pub same-counts : {n m : A} → done n ≡ done m → n ≡ m
  same-counts e = ap (λ (t : Told A). t.counts) e

  pub same-refused : (r s : Refusal) {z : A} → refused r z ≡ refused s z → r ≡ s
  same-refused r s e = same-refusal r s (ap (λ (t : Told A). t.number) e) (ap (λ (t : Told A). t.place) e)

  pub never_both : {X : Type 0} (r : Refusal) {n z : A} → done n ≡ refused r z → X
  never_both r e = let z : 0 ≡ number_of r = ap (λ (t : Told A). t.number) e in absurd (omega (arith, some r))

pub told-all : ToldAll
told-all (Ok m) (Ok n) e = ap Ok (same-counts e)
told-all (Ok m) (Err s) e = never_both s e
told-all (Err r) (Ok n) e = never_both r (sym e)
told-all (Err r) (Err s) e = ap Err (same-refused r s e)
