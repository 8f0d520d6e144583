-- What is stated in specs/Shown.
use Rattle.std.proofs.Common.{Ok, Err, Some, None, Option, ◌≡◌}
use Rattle.noise.specs.declared.RuleName.{RuleName}
use Rattle.lists.proofs.Kit.{sym, ap, ◌∙◌, List, Bool, true, false, cond, ℕ, arith, leb, ltb, length}
use Rattle.schemes.specs.{Schemes.family_of, Schemes.by_family, declared.Family.Family, declared.Scheme.Scheme}
use Rattle.lists.specs.First.{first_over_lem}
use Rattle.refusals.specs.Refusals.{number_in, ◌then◌, length_is_lem, room_for_lem, publics_in_lem, message_in, not_blank_lem, table_in_lem}
use Rattle.refusals.specs.{Seen.Told, Refusals.Verdict}
use Rattle.refusals.proofs.{Laws.differ, Laws.some, Laws.both, Number.and, Number.lengths, Number.rooms, Number.publics, Number.blanks, Same.same-refusal}
use Rattle.sampling.specs.Expand.{enough}
use Rattle.reply.specs.Reply.{ReplyRooms}
use Rattle.exchange.specs.Open.{OpenLent, OpenRooms, OpenSeen, open_tests, open_seen, OpenCounts}
use Rattle.exchange.specs.Shown.{NeverSix, OpenOffers, AnswerReplies, OpenSeenAll, OpenToldAll}
use Rattle.exchange.specs.{Random.ruled_in, Random.table_order, Random.grown, Answer.AnswerLent, Answer.answer_tests, Inside.open_sizes_lem, Inside.answer_sizes_lem}
use Rattle.exchange.proofs.Answering.{answer-sized, answer-decides}
use Rattle.exchange.proofs.Opening.{open-sized, open-decides}

-- ---- 6

abbrev Other : ℕ → Type 0
Other k = k ≡ 6 → ⊥

none : Other 0
none e = omega arith

either : (t : Bool) (v w : Verdict) → Other (number_in v) → Other (number_in w) → Other (number_in (cond t v w))
either true v w a b = a
either false v w a b = b

by-family : (F : Family) (v w u : Verdict) → Other (number_in v) → Other (number_in w) → Other (number_in u) → Other (number_in (by_family F v w u))
by-family Family.Bcns v w u a b d = a
by-family Family.NewHope v w u a b d = b
by-family Family.Frodo v w u a b d = d

entry_other : (p n : ℕ) → Other (number_in (table_in_lem p n))
unfolding table_in_lem
entry_other p n = either (ltb p n) _ _ (λ e. omega arith) none

table-other : (c : Scheme) (table : List ℕ) → Other (number_in (table_order c table))
unfolding table_order
table-other c table = by-family (family_of c) _ _ _ (entry_other _ _) none none

enough-other : (m : ℕ) → Other (number_in (enough m))
unfolding enough
enough-other m = either (leb 1024 m) _ _ none (λ e. omega arith)

grown-other : (c : Scheme) (k : Option RuleName) (seed : List ℕ) → Other (number_in (grown c k seed))
unfolding grown
grown-other c k seed = by-family (family_of c) _ _ _ none (enough-other _) none

message-other : (q : ℕ) (xs : List ℕ) → Other (number_in (message_in q xs))
unfolding message_in
message-other q xs = either (ltb (first_over_lem q xs) (length xs)) _ _ (λ e. omega arith) none

ruled-other : (k : Option RuleName) → Other (number_in (ruled_in k))
ruled-other None = λ e. omega arith
ruled-other (Some r) = none

length-other : (m n : ℕ) → Other (number_in (length_is_lem m n))
length-other = lengths Other none (λ e. omega arith)

room-other : (room n : ℕ) → Other (number_in (room_for_lem room n))
room-other = rooms Other none (λ e. omega arith)

publics-other : (q : ℕ) (xs : List ℕ) → Other (number_in (publics_in_lem q xs))
publics-other = publics Other none (λ e. omega arith)

blank-other : (part : List ℕ) → Other (number_in (not_blank_lem part))
blank-other = blanks Other none (λ e. omega arith)

also : (v w : Verdict) → Other (number_in v) → Other (number_in w) → Other (number_in (v then w))
also v w a b = and Other v w a (λ _. b)

open-never : (c : Scheme) (k : Option RuleName) (x : OpenLent) (m : OpenRooms) → Other (number_in (open_tests (Some c) k x m))
unfolding open_tests
open-never c k x m =
    also _ _
    (also _ _
    (also _ _
    (also _ _
    (also _ _
    (also _ _ (also _ _ (also _ _ (also _ _ (ruled-other k) (length-other _ _)) (length-other _ _)) (length-other _ _)) (room-other _ _))
    (room-other _ _))
    (table-other c x.table))
    (publics-other _ _))
    (grown-other c k _))
    (blank-other _)

answer-never : (c : Scheme) (k : Option RuleName) (x : AnswerLent) (m : ReplyRooms) → Other (number_in (answer_tests (Some c) k x m))
unfolding answer_tests
answer-never c k x m =
    also _ _
    (also _ _
    (also _ _
    (also _ _
    (also _ _
    (also _ _
    (also _ _
    (also _ _
    (also _ _
    (also _ _ (also _ _ (also _ _ (also _ _ (ruled-other k) (length-other _ _)) (length-other _ _)) (length-other _ _)) (length-other _ _))
    (room-other _ _))
    (room-other _ _))
    (room-other _ _))
    (table-other c x.table))
    (publics-other _ _))
    (message-other _ _))
    (blank-other _))
    (grown-other c k _))
    (blank-other _)

pub never-six : NeverSix
unfolding open_tests answer_tests
never-six = (opens, answers)
  where
    opens : (c : Option Scheme) (k : Option RuleName) (x : OpenLent) (m : OpenRooms) → number_in (open_tests c k x m) ≡ 6 → ⊥
    opens None k x m = λ e. omega arith
    opens (Some c) k x m = open-never c k x m

    answers : (c : Option Scheme) (k : Option RuleName) (x : AnswerLent) (m : ReplyRooms) → number_in (answer_tests c k x m) ≡ 6 → ⊥
    answers None k x m = λ e. omega arith
    answers (Some c) k x m = answer-never c k x m

-- ---- what passes

pub open-offers : OpenOffers
unfolding open_tests open_sizes_lem
open-offers None k x m b t = differ t
open-offers (Some c) k x m b t =
    let grows = both _ _ (both _ _ t).0 in
    let sizes = (both _ _ (both _ _ grows.0).0).0 in
    (both _ _ (sym (open-decides (open-sized c k x m sizes b) grows.1) ∙ t)).1

pub answer-replies : AnswerReplies
unfolding answer_tests answer_sizes_lem
answer-replies None k x m b t = differ t
answer-replies (Some c) k x m b t =
    let grows = both _ _ (both _ _ t).0 in
    let sizes = (both _ _ (both _ _ (both _ _ (both _ _ grows.0).0).0).0).0 in
    (both _ _ (sym (answer-decides (answer-sized c k x m sizes b) grows.1) ∙ t)).1

-- ---- nothing is forgotten

-- the numbers of the answer, from what is seen
told_in : OpenSeen → Told OpenCounts
told_in s = record { number = s.number; place = s.place; counts = record { opening = s.opening.count; s = s.s.count } }

pub open-seen-all : OpenSeenAll
unfolding open_seen told_in
open-seen-all t t' opening opening' s s' e = (ap told_in e, ap (λ (u : OpenSeen). u.opening.holds) e, ap (λ (u : OpenSeen). u.s.holds) e)

pub open-told-all : OpenToldAll
open-told-all (Ok n) (Ok n') e = ap Ok (ap (λ (t : Told OpenCounts). t.counts) e)
open-told-all (Ok n) (Err r) e = let z = ap (λ (t : Told OpenCounts). t.number) e in absurd (omega (arith, some r))
open-told-all (Err r) (Ok n) e = let z = ap (λ (t : Told OpenCounts). t.number) e in absurd (omega (arith, some r))
open-told-all (Err r) (Err s) e =
    ap Err (same-refusal r s (ap (λ (t : Told OpenCounts). t.number) e) (ap (λ (t : Told OpenCounts). t.place) e))
