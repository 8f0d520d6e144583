-- What a caller sees of a call, and what a call shows by the verdict v of its tests: 01, "Refusal numbers and their order". A call's promise is one equation:
-- what is seen is a function of what the call was lent. The call's tests, in 01's order, give the verdict; each thing seen follows from it by `written` or
-- `if_passed`.
--   if_passed v a z      a where nothing is refused, z after a refusal
--   Output A            an output: the count that is told of it, and what it holds from end to end
--   output n xs         one with the count n that holds xs
--   written v xs z n    one with room for n: the answer xs, z behind it, and the answer's length as its count; after a refusal z from end to end, and 0
--   answer o            the front of an output, by its count
--   unused              the slack where none is told: 02, request f
--   Told A              the numbers of an answer: the refusal's (0 where there is none), its place, and the counts
--   done n, refused r z   the numbers of an answer without a refusal, and of the refusal r
--   Seen A              what is seen of a call with one output
--   shown v xs z n      what such a call shows
--   Answer              what it answers: how much it wrote, or the refusal
--   told r              the numbers of its answer
--   seen t out          what is seen of it where it tells t and leaves out
--   One                 no two results satisfy one promise, whatever the call
--   SeenAll             `seen` forgets nothing: from what is seen come the number, the place, the count and the output
--   ToldAll             `told` forgets nothing: two answers with the same numbers are the same
use Rattle.std.specs.Prelude.{Ok, Err, Result, ◌≡◌, List, ◌++◌, ℕ, ◌-◌, length, replicate, take}
use Rattle.lists.specs.declared.Peak.{Peak}
use Rattle.refusals.specs.Refusals.{number_of, place_of, number_in, place_in, Refusal, Verdict}

abbrev pub if_passed : {A : Type 0} → Verdict → A → A → A
if_passed (Ok _) a z = a
if_passed (Err r) a z = z

pub record Output (A : Type 0) : Type 0 where
  pub count : ℕ
  pub holds : List A

abbrev pub output : {A : Type 0} → ℕ → List A → Output A
output n xs = record { count = n; holds = xs }

unfoldable pub written : {A : Type 0} → Verdict → List A → A → ℕ → Output A
written v xs z n = if_passed v (output (length xs) (xs ++ replicate (n - length xs) z)) (output 0 (replicate n z))

abbrev pub answer : {A : Type 0} → Output A → List A
answer o = take o.count o.holds

abbrev pub unused : Peak
unused = record { most = 0; at = 0 }

-- ---- the numbers of an answer

pub record Told (A : Type 0) : Type 0 where
  pub number : ℕ
  pub place : ℕ
  pub counts : A

abbrev pub done : {A : Type 0} → A → Told A
done n = record { number = 0; place = 0; counts = n }

abbrev pub refused : {A : Type 0} → Refusal → A → Told A
refused r z = record { number = number_of r; place = place_of r; counts = z }

-- ---- a call with one output

pub record Seen (A : Type 0) : Type 0 where
  pub number : ℕ
  pub place : ℕ
  pub out : Output A

unfoldable pub shown : {A : Type 0} → Verdict → List A → A → ℕ → Seen A
shown v xs z n = record { number = number_in v; place = place_in v; out = written v xs z n }

-- how much a call wrote, or the refusal
abbrev pub Answer : Type 0
Answer = Result ℕ Refusal

abbrev pub told : Answer → Told ℕ
told (Ok n) = done n
told (Err r) = refused r 0

unfoldable pub seen : {A : Type 0} → Told ℕ → List A → Seen A
seen t out = record { number = t.number; place = t.place; out = output t.counts out }

-- ---- what follows

abbrev pub One : Type 1
One = (A : Type 0) (promised s t : A) → s ≡ promised → t ≡ promised → s ≡ t

abbrev pub SeenAll : Type 1
SeenAll =
    (A : Type 0) (t t' : Told ℕ) (out out' : List A) → seen t out ≡ seen t' out'
    → (t.number ≡ t'.number) × (t.place ≡ t'.place) × (t.counts ≡ t'.counts) × (out ≡ out')

abbrev pub ToldAll : Type 0
ToldAll = (r r' : Answer) → told r ≡ told r' → r ≡ r'
