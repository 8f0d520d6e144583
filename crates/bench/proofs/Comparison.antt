-- What is stated in specs/Shown.
--   compared                  an answer without a refusal; told-agree, told-differ: by how two keys differ
--   bench-sendable, bench-shows, bench-gave  where Bench refuses nothing, its inputs are sendable; and what it shows and answers of such inputs
--   differ-few                the number that tells how the keys differ, whatever the scheme
use Rattle.lists.proofs.Kit.{refl, ◌∙◌, sym, ap, List, Bool, true, false, cond, ℕ, zero, suc, le_refl, arith, ltb, length, ltb-true}
use Rattle.std.proofs.Common.{Ok, Err, Some, None, Option, ◌≡◌, ◌↔◌, ◌*◌, ◌≤◌}
use Rattle.schemes.specs.{Schemes.by_family, Schemes.family_of, declared.Family.Family, declared.Scheme.Scheme}
use Rattle.schemes.proofs.Sound.{sound}
use Rattle.lists.specs.{Ranges.Below, First.first_apart_lem, declared.Peak.Peak}
use Rattle.refusals.specs.{Seen.if_passed, Refusals.Verdict, Refusals.pass}
use Rattle.refusals.proofs.Laws.{both, number-zero, all_pass}
use Rattle.finish.specs.Finish.{finish_key, finish_slack}
use Rattle.reply.specs.Reply.{reply_key}
use Rattle.reply.proofs.Replying.{key-length}
use Rattle.agreement.specs.{Run.replying, Run.finishing, Exchange.Sendable}
use Rattle.agreement.proofs.{Tests.sendable-by, Tests.offer-passes, Tests.reply-passes, Accepted.gave, Accepted.accepted, Agreement.agreement}
use Rattle.bench.specs.Bench.{Bench, BenchSeen, bits, differing, bench_tests, keys_differ, bench_differs, bench_slack, bench_shown, bench_result, bench_told}
use Rattle.bench.specs.Bench.{BenchAnswer, agrees, differs_at}
use Rattle.bench.specs.{Inside.comparison, Shown.FirstBit, Shown.BenchAccepts, Shown.BenchTells, Shown.BenchAgrees}
use Rattle.bench.proofs.Lamp.{same-long, own-bytes, peer-bytes, differs-is}
use Rattle.bench.proofs.{Differing.differing-none, Differing.differing-at, Shown.bench-told-all}

-- ---- without a refusal

-- what is seen without a refusal
abbrev shows : ℕ → Peak → BenchSeen
shows d p = record { number = 0; place = 0; differ = d; slack = p }

abbrev answered : ℕ → Peak → BenchAnswer
answered d p = Ok (comparison d p)

differ_of : (d : ℕ) (p : Peak) → (bench_told (Ok (comparison d p))).differ ≡ d
differ_of zero p = refl
differ_of (suc i) p = refl

compared : (r : BenchAnswer) (d : ℕ) {p : Peak} → bench_told r ≡ shows d p → r ≡ Ok (comparison d p)
compared r zero {p} e = bench-told-all r (agrees p) e
compared r (suc i) {p} e = bench-told-all r (differs_at i p) e

-- of two keys that are bytes and of one length
module _ (r : BenchAnswer) {own peer : List ℕ} (p : Peak) (e : r ≡ Ok (comparison (differing own peer) p))
    (l : length own ≡ length peer) (ho : Below 256 own) (hp : Below 256 peer) where
  told : {a : BenchAnswer} → r ≡ a → differing own peer ≡ (bench_told a).differ
  told f = sym (differ_of (differing own peer) p) ∙ ap (λ (r : BenchAnswer). (bench_told r).differ) (sym e ∙ f)

  told-agree : (r ≡ agrees p) ↔ (own ≡ peer)
  told-agree =
      let n = differing-none own peer l ho hp in
      (λ f. n.0 (told f), λ f. e ∙ ap (λ (d : ℕ). answered d p) (n.1 f))

  told-differ : (i : ℕ) → (r ≡ differs_at i p) ↔ FirstBit i own peer
  told-differ i =
      let n = differing-at own peer l ho hp i in
      (λ f. n.0 (told f), λ f. e ∙ ap (λ (d : ℕ). answered d p) (n.1 f))

module _ (c : Scheme) (x : Bench) where
  bench-sendable : (bench_result (Some c) x).number ≡ 0 → Sendable c x
  unfolding bench_tests bench_shown
  bench-sendable z = let t = both _ _ (number-zero _ (sym z)) in sendable-by c x _ _ _ t.0 t.1

  bench-passes : Sendable c x → bench_tests (Some c) x ≡ pass
  unfolding bench_tests
  bench-passes h = all_pass (offer-passes c x h _ (le_refl _)) (reply-passes c x h _ (le_refl _) (le_refl _) (le_refl _))

  bench-shows : Sendable c x → bench_result (Some c) x ≡ shows (keys_differ c x) (finish_slack (Some c) (finishing c x))
  unfolding bench_shown bench_slack
  bench-shows h = let e = bench-passes h in rw (e, ← differs-is c x e)

  bench-gave : (r : BenchAnswer) → bench_told r ≡ bench_result (Some c) x → Sendable c x
      → r ≡ Ok (comparison (differing (reply_key (Some c) (replying c x)) (finish_key (Some c) (finishing c x))) (finish_slack (Some c) (finishing c x)))
  unfolding keys_differ
  bench-gave r b h = compared r _ (b ∙ bench-shows h)

pub bench-accepts : BenchAccepts
bench-accepts c x =
    (λ z. (accepted c x).1 (bench-sendable c x z), λ t. ap (λ (s : BenchSeen). s.number) (bench-shows c x (gave t).sendable))

pub bench-tells : BenchTells
bench-tells c x r b t =
    let g = gave t in
    let p = bench-gave c x r b g.sendable in
    record {
      agree = rw (g.own, g.peer, g.slack) (told-agree r (finish_slack (Some c) (finishing c x)) p (same-long c x) (own-bytes c x) (peer-bytes c x));
      differ = λ i. rw (g.own, g.peer, g.slack) (told-differ r (finish_slack (Some c) (finishing c x)) p (same-long c x) (own-bytes c x) (peer-bytes c x) i);
    }

pub bench-agrees : BenchAgrees
bench-agrees c x r b z near =
    let t = (bench-accepts c x).0 (sym (ap (λ (s : BenchSeen). s.number) b) ∙ z) in
    (bench-tells c x r b t).agree.1 (agreement c x t near).same ∙ ap agrees (gave t).slack

-- ---- how large the number is that tells a differing bit

up_to : (a b : ℕ) (t : Bool) → ltb a b ≡ t → cond t (suc a) 0 ≤ b
up_to a b true e = omega (arith, ltb-true a b e)
up_to a b false e = omega arith

within : (xs ys : List ℕ) → differing xs ys ≤ 8 * length xs
unfolding differing
within xs ys = up_to (first_apart_lem (bits xs) (bits ys)) (8 * length xs) (ltb (first_apart_lem (bits xs) (bits ys)) (8 * length xs)) refl

few : (v : Verdict) {d : ℕ} → d ≤ 1024 → if_passed v d 0 ≤ 1024
few (Ok _) h = h
few (Err r) h = omega arith

in-family : (F : Family) {d : ℕ} → d ≤ 1024 → by_family F 0 d d ≤ 1024
in-family Family.Bcns h = omega arith
in-family Family.NewHope h = h
in-family Family.Frodo h = h

differs-few : (n : Option Scheme) (x : Bench) → bench_differs n x ≤ 1024
unfolding bench_differs keys_differ
differs-few None x = omega arith
differs-few (Some c) x =
    in-family (family_of c) (omega (arith, within (reply_key (Some c) (replying c x)) (finish_key (Some c) (finishing c x)), key-length c (replying c x), (sound c).keys))

pub differ-few : (n : Option Scheme) (x : Bench) (r : BenchAnswer) → bench_told r ≡ bench_result n x → (bench_told r).differ ≤ 1024
unfolding bench_shown
differ-few n x r b = omega (arith, ap (λ (s : BenchSeen). s.differ) b, few (bench_tests n x) (differs-few n x))
