-- What the tests of a call say, once for all calls.
--   differ          a failure is no pass
--   some, number-zero   a refusal has a number, and a verdict without one has passed
--   both            where a sequence has passed, each of its tests has
--   length-passed, up-to-passed, room-passed, turn-passed, table-passed, publics-passed, message-passed, secrets-passed   what a test that has passed says
--   within-passes, below-passes, message-passes, length-passes, up-to-passes, room-passes, turn-passes   and what passes
--   all_pass        so does a sequence of such tests
--   stays, goes_on  one test more, after a failure and after none
--   publics-over, publics-under   the verdict on public numbers, by the first that is too large
--   over, under     the unpack step's verdict, by the first number that is too large
--   blank-fails, not-blank-passes, not-blank-passed, not-blank-packed   a part that is blank, and one that is not; numbers tested for their bytes
--   first, also     a sequence as the code goes through it
--   last-passes     a test that passes, behind others, changes nothing
--   then-assoc, failed, went_on   a sequence in two parts: the first fails, or the second decides
--   before-pass, before-fail      a test that is made only where the later one fails
--   before-failed, before-passed  a sequence in which the middle is left for last: where it fails, and where it passes
use Rattle.std.proofs.Common.{Ok, Err, ◌≡◌, ◌*◌, ◌^◌, ◌≤◌, ◌<◌}
use Rattle.lists.proofs.Kit.{refl, sym, ap₂, ◌∙◌, List, Bool, true, false, cond, ℕ, arith, leb, ltb, length, ℤ, pos, nat_abs}
use Rattle.lists.proofs.Kit.{eqb-true, leb-true, ltb-false, lt-ltb, le-ltb, le-leb, lt-leb, eq-eqb}
use Rattle.lists.specs.{Ranges.Below, Ranges.Within, First.first_over_lem, First.first_beyond_lem}
use Rattle.lists.proofs.First.{all-below, all-within, none_found}
use Rattle.packing.specs.Packing.{packed}
use Rattle.blank.specs.Blank.{blank}
use Rattle.blank.proofs.Laws.{blank-packed}
use Rattle.refusals.specs.Refusals.{number_of, number_in, ◌then◌, length_is_lem, length_up_to_lem, room_for_lem, in_turn, table_in_lem, publics_in_lem, message_in, not_blank_lem, secrets_in_lem}
use Rattle.refusals.specs.Refusals.{Refusal, Verdict, NoScheme, BadLength, Short, PublicOver, MessageOver, SecretBeyond, RanOut, Misfit, OutOfStage}
use Rattle.refusals.specs.Refusals.{OutOfTurn, NoRule, NewerFormat, NoStudio, Blank, NotAscending, pass}
use Rattle.refusals.specs.Steps.{◌before◌}

pub differ : {X : Type 0} {r : Refusal} → ◌≡◌ {A = Verdict} (Err r) pass → X
differ e = let z : ◌≡◌ {A = ℕ} 0 1 = cc in absurd (omega arith)

pub some : (r : Refusal) → 0 < number_of r
some NoScheme = omega arith
some BadLength = omega arith
some Short = omega arith
some (PublicOver k) = omega arith
some (MessageOver k) = omega arith
some (SecretBeyond k) = omega arith
some (RanOut k) = omega arith
some Misfit = omega arith
some OutOfStage = omega arith
some OutOfTurn = omega arith
some NoRule = omega arith
some NewerFormat = omega arith
some NoStudio = omega arith
some Blank = omega arith
some (NotAscending k) = omega arith

pub number-zero : (v : Verdict) → 0 ≡ number_in v → v ≡ pass
number-zero (Ok _) e = refl
number-zero (Err r) e = absurd (omega (arith, some r))

pub both : (v w : Verdict) → v then w ≡ pass → (v ≡ pass) × (w ≡ pass)
unfolding ◌then◌
both (Ok _) w e = (refl, e)
both (Err r) w e = differ e

if-pass : (t : Bool) (r : Refusal) → cond t pass (Err r) ≡ pass → t ≡ true
if-pass true r e = refl
if-pass false r e = differ e

if-not : (t : Bool) (r : Refusal) → cond t (Err r) pass ≡ pass → t ≡ false
if-not true r e = differ e
if-not false r e = refl

pub length-passed : (m n : ℕ) → length_is_lem m n ≡ pass → m ≡ n
unfolding length_is_lem
length-passed m n e = eqb-true m n (if-pass _ _ e)

pub up-to-passed : (m n : ℕ) → length_up_to_lem m n ≡ pass → m ≤ n
unfolding length_up_to_lem
up-to-passed m n e = leb-true m n (if-pass _ _ e)

pub room-passed : (room n : ℕ) → room_for_lem room n ≡ pass → n ≤ room
unfolding room_for_lem
room-passed room n e = leb-true n room (if-pass _ _ e)

pub turn-passed : (b : Bool) → in_turn b ≡ pass → b ≡ true
unfolding in_turn
turn-passed b e = if-pass _ _ e

pub table-passed : (p n : ℕ) → table_in_lem p n ≡ pass → n ≤ p
unfolding table_in_lem
table-passed p n e = ltb-false p n (if-not _ _ e)

pub secrets-passed : (B : ℕ) (s : List ℤ) → secrets_in_lem B s ≡ pass → Within B s
unfolding secrets_in_lem
secrets-passed B s e = all-within B s (ltb-false _ _ (if-not _ _ e))

-- one test more, after a failure and after none
pub stays : {v : Verdict} {r : Refusal} (w : Verdict) → v ≡ Err r → v ≡ v then w
unfolding ◌then◌
stays w e = rw e

pub goes_on : {v u w : Verdict} → v ≡ pass → u ≡ w → u ≡ v then w
unfolding ◌then◌
goes_on e f = rw e f

pub publics-over : (q : ℕ) (xs : List ℕ) {k : ℕ} → k ≡ first_over_lem q xs → k < length xs → Err (PublicOver k) ≡ publics_in_lem q xs
unfolding publics_in_lem
publics-over q xs e h = rw (e, lt-ltb _ _ (rw e at h))

pub publics-under : (q : ℕ) (xs : List ℕ) {k : ℕ} → k ≡ first_over_lem q xs → length xs ≤ k → pass ≡ publics_in_lem q xs
unfolding publics_in_lem
publics-under q xs e h = rw (le-ltb _ _ (rw e at h))

pub over : (q : ℕ) (xs : List ℕ) (k : ℕ) → k ≡ first_over_lem q xs → k < length xs → Err (MessageOver k) ≡ message_in q xs
unfolding message_in
over q xs k e h = rw (e, lt-ltb _ _ (rw e at h))

pub under : (q : ℕ) (xs : List ℕ) (k : ℕ) → k ≡ first_over_lem q xs → length xs ≤ k → pass ≡ message_in q xs
unfolding message_in
under q xs k e h = rw (le-ltb _ _ (rw e at h))

-- ---- blank parts

pub blank-fails : (part : List ℕ) → blank part ≡ true → not_blank_lem part ≡ Err Blank
unfolding not_blank_lem
blank-fails part e = rw e

pub not-blank-passes : (part : List ℕ) → blank part ≡ false → not_blank_lem part ≡ pass
unfolding not_blank_lem
not-blank-passes part e = rw e

pub not-blank-passed : (part : List ℕ) → not_blank_lem part ≡ pass → blank part ≡ false
unfolding not_blank_lem
not-blank-passed part e = if-not _ _ e

pub not-blank-packed : (w m : ℕ) (xs : List ℕ) → w * length xs ≡ 8 * m → Below (2 ^ w) xs → not_blank_lem (packed w xs) ≡ not_blank_lem xs
unfolding not_blank_lem
not-blank-packed w m xs e h = rw (blank-packed w m xs e h)

pub message-passed : (q : ℕ) (xs : List ℕ) → 0 < q → message_in q xs ≡ pass → Below q xs
unfolding message_in
message-passed q xs h e = all-below q xs h (ltb-false _ _ (if-not _ _ e))

pub publics-passed : (q : ℕ) (xs : List ℕ) → 0 < q → publics_in_lem q xs ≡ pass → Below q xs
unfolding publics_in_lem
publics-passed q xs h e = all-below q xs h (ltb-false _ _ (if-not _ _ e))

-- a front by the code: the first test, and one more
pub first : {u t t' : Verdict} → u ≡ pass then t → t ≡ t' → u ≡ t'
unfolding ◌then◌
first e f = e ∙ f

pub also : {u v v' t t' : Verdict} → u ≡ v then t → v ≡ v' → t ≡ t' → u ≡ v' then t'
also e f g = e ∙ ap₂ (λ (x y : Verdict). x then y) f g

pub then-assoc : (a b c : Verdict) → a then b then c ≡ a then (b then c)
unfolding ◌then◌
then-assoc (Ok _) b c = refl
then-assoc (Err r) b c = refl

-- a test t whose verdict is v: where v fails, so does t and what follows; where it passes, the rest decides
pub failed : {v t : Verdict} {r : Refusal} (w : Verdict) → v ≡ t → v ≡ Err r → t then w ≡ Err r
unfolding ◌then◌
failed w e f = rw (← e, f)

pub went_on : {v t : Verdict} (w : Verdict) → v ≡ t → v ≡ pass → t then w ≡ w
unfolding ◌then◌
went_on w e f = rw (← e, f)

-- ---- a test that is made only where the later one fails

pub before-pass : {w : Verdict} (v : Verdict) → w ≡ pass → w ≡ v before w
unfolding ◌before◌
before-pass v e = rw e

pub before-fail : {w : Verdict} {r : Refusal} (v : Verdict) → w ≡ Err r → v then w ≡ v before w
unfolding ◌before◌
before-fail v e = rw e

pub last-passes : (v : Verdict) → v then pass ≡ v
unfolding ◌then◌
last-passes (Ok _) = refl
last-passes (Err r) = refl

-- first p, then s, and a before s only where s fails: what that says of p, a and s in this order
pub before-failed : (p a s : Verdict) {r : Refusal} → p then (a before s) ≡ Err r → p then a then s ≡ Err r
unfolding ◌then◌ ◌before◌
before-failed (Ok _) a (Ok _) e = differ (sym e)
before-failed (Ok _) a (Err t) e = e
before-failed (Err t) a s e = e

pub before-passed : (p a s : Verdict) → p then (a before s) ≡ pass → (p ≡ pass) × (s ≡ pass) × (p then a then s ≡ a)
unfolding ◌then◌ ◌before◌
before-passed (Ok _) a (Ok _) e = (refl, refl, last-passes a)
before-passed (Ok _) a (Err t) e = differ (both a (Err t) e).1
before-passed (Err t) a s e = differ e

pub within-passes : {B : ℕ} {s : List ℤ} → Within B s → secrets_in_lem B s ≡ pass
unfolding secrets_in_lem first_beyond_lem
within-passes {B} {s} h =
    rw (none_found (λ x. ltb B (nat_abs x)) (pos 0) s (λ k. le-ltb _ _ (h.within k)), le-ltb (length s) (length s) (omega arith))

pub below-passes : {q : ℕ} {xs : List ℕ} → Below q xs → publics_in_lem q xs ≡ pass
unfolding publics_in_lem first_over_lem
below-passes {q} {xs} h =
    rw (none_found (λ x. leb q x) 0 xs (λ k. lt-leb _ _ (h.below k)), le-ltb (length xs) (length xs) (omega arith))

pub message-passes : {q : ℕ} {xs : List ℕ} → Below q xs → message_in q xs ≡ pass
unfolding message_in first_over_lem
message-passes {q} {xs} h =
    rw (none_found (λ x. leb q x) 0 xs (λ k. lt-leb _ _ (h.below k)), le-ltb (length xs) (length xs) (omega arith))

pub all_pass : {v w : Verdict} → v ≡ pass → w ≡ pass → v then w ≡ pass
unfolding ◌then◌
all_pass e f = rw e f

pub length-passes : {m n : ℕ} → m ≡ n → length_is_lem m n ≡ pass
unfolding length_is_lem
length-passes e = rw (eq-eqb _ _ e)

pub up-to-passes : {m n : ℕ} → m ≤ n → length_up_to_lem m n ≡ pass
unfolding length_up_to_lem
up-to-passes h = rw (le-leb _ _ h)

pub room-passes : {room n : ℕ} → n ≤ room → room_for_lem room n ≡ pass
unfolding room_for_lem
room-passes h = rw (le-leb _ _ h)

pub turn-passes : {b : Bool} → b ≡ true → in_turn b ≡ pass
unfolding in_turn
turn-passes e = rw e
