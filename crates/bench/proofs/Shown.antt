-- What is stated in specs/Shown.
--   bench-told-all, bcns-told-all   one answer for the same numbers
--   never-three-or-five   3 and 5 cannot arise
--   opening-passes        an opening that Offer has made is not refused
--   finish-accepts        Finish refuses nothing there
use Rattle.lists.proofs.Kit.{refl, ap, ap₂, List, ℕ, le_refl, arith, ℤ}
use Rattle.std.proofs.Common.{Ok, Err, Some, None, Option, ◌≡◌}
use Rattle.schemes.specs.{Schemes.fixed_of, declared.Scheme.Scheme}
use Rattle.lists.specs.declared.Peak.{Peak}
use Rattle.refusals.specs.Refusals.{number_in, length_is_lem, room_for_lem, publics_in_lem, not_blank_lem, received_in, secrets_in_lem, pass}
use Rattle.refusals.proofs.Number.{and, passes, lengths, publics, secrets, blanks}
use Rattle.refusals.proofs.{Laws.some, Laws.both, Laws.room-passes, Laws.not-blank-passed, Same.same-refusal}
use Rattle.wire.specs.Wire.{opened_in}
use Rattle.offer.specs.{Offer.Offer, Offer.offer_tests, Inside.offer_lengths_lem, Inside.offer_in_lem}
use Rattle.offer.proofs.Offering.{offer-opens}
use Rattle.reply.specs.Reply.{Reply, reply_rooms_of, reply_tests, opened_of}
use Rattle.agreement.specs.Run.{offering, replying}
use Rattle.agreement.proofs.Tests.{sendable-by, opening-received, finish-passes}
use Rattle.bench.specs.Bench.{Bench, BenchSeen, bench_tests, bench_shown, BenchAnswer, differ_number}
use Rattle.bench.specs.Shown.{BenchToldAll, BcnsToldAll, NeverThreeOrFive, OpeningPasses, FinishPasses}

-- ---- one answer

module _ {s t : BenchSeen} (e : s ≡ t) where
  numbers : s.number ≡ t.number
  numbers = ap (λ (u : BenchSeen). u.number) e

  places : s.place ≡ t.place
  places = ap (λ (u : BenchSeen). u.place) e

  differs : s.differ ≡ t.differ
  differs = ap (λ (u : BenchSeen). u.differ) e

  slacks : s.slack ≡ t.slack
  slacks = ap (λ (u : BenchSeen). u.slack) e

one_bit : (a b : Option ℕ) → differ_number a ≡ differ_number b → a ≡ b
one_bit None None e = refl
one_bit None (Some j) e = absurd (omega arith)
one_bit (Some i) None e = absurd (omega arith)
one_bit (Some i) (Some j) e = ap Some (omega (arith, e))

abbrev answer : Option ℕ → Peak → BenchAnswer
answer d p = Ok (record { differ = d; slack = p })

pub bench-told-all : BenchToldAll
bench-told-all (Ok m) (Ok n) e =
    ap₂ answer (one_bit m.differ n.differ (differs e)) (slacks e)
bench-told-all (Ok m) (Err s) e = absurd (omega (arith, some s, numbers e))
bench-told-all (Err r) (Ok n) e = absurd (omega (arith, some r, numbers e))
bench-told-all (Err r) (Err s) e = ap Err (same-refusal r s (numbers e) (places e))

pub bcns-told-all : BcnsToldAll
bcns-told-all (Ok p) (Ok q) e = ap Ok (slacks e)
bcns-told-all (Ok p) (Err s) e = absurd (omega (arith, some s, numbers e))
bcns-told-all (Err r) (Ok q) e = absurd (omega (arith, some r, numbers e))
bcns-told-all (Err r) (Err s) e = ap Err (same-refusal r s (numbers e) (places e))

-- ---- neither 3 nor 5

abbrev Inside : ℕ → Type 0
Inside k = (k ≡ 3 → ⊥) × (k ≡ 5 → ⊥)

zero_in : Inside 0
zero_in = (λ e. omega arith, λ e. omega arith)

-- each kind of test; an output has just the room that its answer takes
length-in : (m n : ℕ) → Inside (number_in (length_is_lem m n))
length-in m n = lengths Inside zero_in (λ e. omega arith, λ e. omega arith) m n

room_in : (n : ℕ) → Inside (number_in (room_for_lem n n))
room_in n = passes Inside (room-passes (le_refl n)) zero_in

public-in : (q : ℕ) (xs : List ℕ) → Inside (number_in (publics_in_lem q xs))
public-in q xs = publics Inside zero_in (λ e. omega arith, λ e. omega arith) q xs

secret-in : (B : ℕ) (s : List ℤ) → Inside (number_in (secrets_in_lem B s))
secret-in B s = secrets Inside zero_in (λ e. omega arith, λ e. omega arith) B s

blank-in : (part : List ℕ) → Inside (number_in (not_blank_lem part))
blank-in part = blanks Inside zero_in (λ e. omega arith, λ e. omega arith) part

offer-in : (c : Scheme) (x : Offer) → Inside (number_in (offer_tests (Some c) x (fixed_of c).opening))
unfolding offer_tests
offer-in c x =
    let l = length-in in
    and Inside _ _
    (and Inside _ _
    (and Inside _ _
    (and Inside _ _
    (and Inside _ _ (and Inside _ _ (and Inside _ _ (and Inside _ _ (l _ _) (λ _. l _ _)) (λ _. l _ _)) (λ _. l _ _)) (λ _. room_in (fixed_of c).opening))
    (λ _. public-in _ x.a))
    (λ _. secret-in _ x.s))
    (λ _. secret-in _ x.e))
    (λ _. blank-in _)

-- an opening that Offer has made
pub opening-passes : OpeningPasses
unfolding offer_tests offer_in_lem offer_lengths_lem
opening-passes c x e =
    let t = both _ _ e in
    opening-received c x (offer-opens c (offering x) _ t.0).0.seed-long (not-blank-passed _ t.1)

reply-in : (c : Scheme) (x : Reply) → received_in (fixed_of c).q (opened_in c x.opening) (opened_of c x) ≡ pass
    → Inside (number_in (reply_tests (Some c) x (reply_rooms_of (fixed_of c).reply (fixed_of c).key 32)))
unfolding reply_tests received_in
reply-in c x o =
    let l = length-in in
    let came = both _ _ o in
    and Inside _ _
    (and Inside _ _
    (and Inside _ _
    (and Inside _ _
    (and Inside _ _
    (and Inside _ _
    (and Inside _ _
    (and Inside _ _
    (and Inside _ _
    (and Inside _ _
    (and Inside _ _
    (and Inside _ _
    (and Inside _ _ (and Inside _ _ (and Inside _ _ (l _ _) (λ _. l _ _)) (λ _. l _ _)) (λ _. l _ _))
    (λ _. l _ _))
    (λ _. l _ _))
    (λ _. room_in (fixed_of c).reply))
    (λ _. room_in (fixed_of c).key))
    (λ _. room_in 32))
    (λ _. public-in _ x.a))
    (λ _. passes Inside came.0 zero_in))
    (λ _. passes Inside came.1 zero_in))
    (λ _. secret-in _ x.s'))
    (λ _. secret-in _ x.e'))
    (λ _. secret-in _ x.e''))
    (λ _. blank-in _)

by_name : (c : Option Scheme) (x : Bench) → Inside (number_in (bench_tests c x))
unfolding bench_tests
by_name None x = (λ e. omega arith, λ e. omega arith)
by_name (Some c) x = and Inside _ _ (offer-in c (offering x)) (λ e. reply-in c (replying c x) (opening-passes c x e))

pub never-three-or-five : NeverThreeOrFive
unfolding bench_shown
never-three-or-five c x = by_name c x

-- ---- Finish

pub finish-accepts : FinishPasses
unfolding bench_tests
finish-accepts c x m e r = let t = both _ _ e in finish-passes c x (sendable-by c x _ _ _ t.0 t.1) m r
