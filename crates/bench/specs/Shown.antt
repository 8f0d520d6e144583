-- What is shown of Bench beside its promise.
--   BenchToldAll, BcnsToldAll   two answers with the same numbers are the same: of Bench, and of the bench of BCNS
--   NeverThreeOrFive   01, "The calls": messages and keys stay inside it, so 3 and 5 can't arise
--   OpeningPasses      nor is the opening refused that Offer has made: no 5, and no 17 of a part that has come
--   FinishPasses       what Offer and Reply let pass, Finish does not refuse
-- Beside the calls, and by demand 3:
--   FirstBit i xs ys   i is the first bit at which two keys differ, counted lowest first through the bytes
--   Tells t r          the answer r says how the keys of the exchange t compare, and passes on the slack that its Finish told
--   BenchAccepts       Bench refuses nothing exactly where the calls refuse nothing
--   BenchTells         it answers agree exactly where the two keys are equal, and differ at i exactly where i is the first bit that differs
--   BenchAgrees        under the premise of demand 3 it answers agree
-- The bench lamp that never lights, 02, request i: "With noise from -51 to 51 no entry of d exceeds 5,326,899, and reconciliation bears 536,870,911" is `Largest`
-- in polynomial/specs/Difference and `Always` in agreement/specs/Agreement.
--   NeverDiffer        where Bench refuses nothing in BCNS, the two keys are the same
--   compared_result     Bench's promise where the keys are compared in every scheme
--   SameNumbers        it and the present promise are one, in every scheme
use Rattle.std.specs.Prelude.{Some, None, Option, Result, ◌≡◌, List, ◌↔◌, ℕ, ◌<◌, get_or}
use Rattle.schemes.specs.{Schemes.fixed_of, declared.Scheme.Scheme, declared.Scheme.TheVariants.Bcns}
use Rattle.lists.specs.declared.Peak.{Peak}
use Rattle.refusals.specs.{Refusals.received_in, Refusals.pass, declared.Refusal.Refusal}
use Rattle.wire.specs.Wire.{opened_in}
use Rattle.offer.specs.Offer.{offer_tests, offer_message}
use Rattle.finish.specs.{Finish.FinishRooms, Finish.finish_tests, Finish.finish_slack, Finish.finish_key, Shown.FinishEnough}
use Rattle.reply.specs.Reply.{opened_of, reply_key}
use Rattle.agreement.specs.{Run.offering, Run.replying, Run.finishing, Agreement.Near, Exchange.Exchange, Exchange.own_key, Exchange.peer_key, Exchange.told_slack}
use Rattle.bench.specs.Bench.{Bench, bench_tests, bench_result, bench_told, bcns_told, bits, BenchSeen, keys_differ, bench_slack, bench_shown, BenchAnswer, agrees, differs_at}

abbrev pub BenchToldAll : Type 0
BenchToldAll = (r r' : BenchAnswer) → bench_told r ≡ bench_told r' → r ≡ r'

abbrev pub BcnsToldAll : Type 0
BcnsToldAll = (r r' : Result Peak Refusal) → bcns_told r ≡ bcns_told r' → r ≡ r'

abbrev pub NeverThreeOrFive : Type 0
NeverThreeOrFive = (c : Option Scheme) (x : Bench) → let n = (bench_result c x).number in (n ≡ 3 → ⊥) × (n ≡ 5 → ⊥)

abbrev pub OpeningPasses : Type 0
OpeningPasses =
    (c : Scheme) (x : Bench) → offer_tests (Some c) (offering x) (fixed_of c).opening ≡ pass
    → received_in (fixed_of c).q (opened_in c (offer_message (Some c) (offering x))) (opened_of c (replying c x)) ≡ pass

abbrev pub FinishPasses : Type 0
FinishPasses =
    (c : Scheme) (x : Bench) (m : FinishRooms) → bench_tests (Some c) x ≡ pass → FinishEnough c m → finish_tests (Some c) (finishing c x) m ≡ pass

-- ---- beside the calls

pub record FirstBit (i : ℕ) (xs ys : List ℕ) : Type 0 where
  pub before : (j : ℕ) → j < i → get_or (bits xs) j 0 ≡ get_or (bits ys) j 0
  pub there : get_or (bits xs) i 0 ≡ get_or (bits ys) i 0 → ⊥

pub record Tells {c : Scheme} {x : Bench} (t : Exchange c x) (r : BenchAnswer) : Type 0 where
  pub agree : (r ≡ agrees (told_slack t)) ↔ (own_key t ≡ peer_key t)
  pub differ : (i : ℕ) → (r ≡ differs_at i (told_slack t)) ↔ FirstBit i (own_key t) (peer_key t)

abbrev pub BenchAccepts : Type 0
BenchAccepts = (c : Scheme) (x : Bench) → ((bench_result (Some c) x).number ≡ 0) ↔ Exchange c x

abbrev pub BenchTells : Type 0
BenchTells = (c : Scheme) (x : Bench) (r : BenchAnswer) → bench_told r ≡ bench_result (Some c) x → (t : Exchange c x) → Tells t r

abbrev pub BenchAgrees : Type 0
BenchAgrees =
    (c : Scheme) (x : Bench) (r : BenchAnswer) → bench_told r ≡ bench_result (Some c) x → (bench_told r).number ≡ 0 → Near c x
    → r ≡ agrees (finish_slack (Some c) (finishing c x))

-- ---- the lamp

abbrev pub NeverDiffer : Type 0
NeverDiffer = (x : Bench) → bench_tests (Some Bcns) x ≡ pass → reply_key (Some Bcns) (replying Bcns x) ≡ finish_key (Some Bcns) (finishing Bcns x)

unfoldable pub differed_before : Option Scheme → Bench → ℕ
differed_before None x = 0
differed_before (Some c) x = keys_differ c x

abbrev pub compared_result : Option Scheme → Bench → BenchSeen
compared_result c x = bench_shown (bench_tests c x) (differed_before c x) (bench_slack c x)

abbrev pub SameNumbers : Type 0
SameNumbers = (c : Option Scheme) (x : Bench) → bench_result c x ≡ compared_result c x
