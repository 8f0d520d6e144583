-- How Bench answers by its verdict, from each of its steps on.
--   named                        the number of a scheme names it
--   finish-refused, reply-refused, offer-refused   what a step hands on whose call refuses
--   finish-done, reply-told, offer-told            and one whose call does not, by the step after it
--   reply-sent, offer-sent                         and its message
--   bench-refused, bench-told, bcns-answered, bench-unknown   Bench's promise, by what is handed on from Offer on; and where the number names no scheme
use Rattle.lists.proofs.Kit.{refl, ◌∙◌, sym, ap, ap₂, List, [], append-nil, ℕ, zero, suc, le_refl, le_of_eq, ℤ, length, take, drop, length-drop}
use Rattle.std.proofs.Common.{Ok, Err, Some, None, Option, Result, ◌≡◌, ◌++◌, ◌-◌}
use Rattle.lists.proofs.Kit.{drop_of_length-le, take_at, drop_at, put_mid}
use Rattle.schemes.specs.Schemes.{fixed_of, scheme_of_lem, scheme_number}
use Rattle.schemes.specs.{declared.Scheme.Scheme, declared.Scheme.TheVariants.Bcns}
use Rattle.schemes.proofs.Laws.{by_number}
use Rattle.lists.specs.declared.Peak.{Peak}
use Rattle.refusals.specs.Seen.{Output, output, written, Seen, told, seen, shown}
use Rattle.refusals.specs.Refusals.{pass}
use Rattle.refusals.specs.declared.Refusal.TheVariants.{NoScheme}
use Rattle.refusals.specs.{Refusals.◌then◌, declared.Refusal.Refusal, Refusals.Verdict}
use Rattle.refusals.proofs.Steps.{front-is, outcome-slack, outcome-refused, passed-by, failed-by}
use Rattle.refusals.proofs.{Laws.differ, Laws.number-zero, Laws.both, Laws.failed, Laws.went_on, Same.same-verdict, Seen.written-whole}
use Rattle.offer.specs.{Offer.offer_tests, Offer.offer_message, Offer.offer_result, Inside.offer_lengths_lem, Inside.offer_in_lem}
use Rattle.offer.proofs.Offering.{offer-opens, opening-long}
use Rattle.finish.specs.Finish.{Finish, FinishSeen, finish, finish_rooms_of, finish_key, finish_slack, finish_shown, finish_result, finish_told, finish_seen}
use Rattle.finish.specs.{declared.FinishCounts.FinishCounts}
use Rattle.reply.specs.Reply.{Reply, ReplySeen, reply_rooms_of, reply_message, reply_key, outputs, reply_result, reply_told, reply_seen}
use Rattle.reply.specs.{declared.ReplyCounts.ReplyCounts}
use Rattle.agreement.specs.Run.{offering, reply_to, replying, finishing}
use Rattle.agreement.proofs.Tests.{sendable-by, finish-passes}
use Rattle.bench.specs.Bench.{Bench, Compared, bench_tests, keys_differ, bench_differs, bench_slack, differing, bench_shown, bench_result, bench_told, bcns_told}
use Rattle.bench.specs.Inside.{tests_from_finish, tests_from_reply, tests_from_offer, Keyed, FromFinish, BothKeys, comparison}
use Rattle.bench.proofs.Lamp.{differs-is}
use Rattle.reply.proofs.Replying as reply
use Rattle.finish.proofs.Finishing as finish

-- ---- by the verdict

-- nothing is promised of a key then
unkeyed : {v : Verdict} {r : Refusal} (key out : List ℕ) → v ≡ Err r → Keyed v key out
unkeyed key out e f = differ (sym e ∙ f)

-- a last part that passes wherever the others do
without-last : (u v w : Verdict) → (u ≡ pass → v ≡ pass → w ≡ pass) → u then (v then w) ≡ u then v
unfolding ◌then◌
without-last (Ok _) (Ok _) w h = h refl refl
without-last (Ok _) (Err r) w h = refl
without-last (Err r) v w h = refl

-- an output that its answer fills
filled : (xs : List ℕ) (room : ℕ) {v : Verdict} {n : ℕ} {out : List ℕ} → v ≡ pass → length xs ≡ room → output n out ≡ written v xs 0 room → out ≡ xs
filled xs room e l f = ap (λ (o : Output ℕ). o.holds) (f ∙ written-whole xs 0 room e l)

-- a buffer of which the front was lent to one call and the rest to the next
two-keys : (c : Scheme) (old peer : List ℕ) {k : ℕ} {key : List ℕ} → k ≡ (fixed_of c).key → length key ≡ (fixed_of c).key
    → let keys = put_mid k (length (key ++ drop k old) - k) (key ++ drop k old) peer in
    (take (fixed_of c).key keys ≡ key) × (drop (fixed_of c).key keys ≡ peer)
two-keys c old peer {k} {key} e l =
    let whole = key ++ drop k old in
    let rest : drop (length whole - k) (drop k whole) ≡ [] = drop_of_length-le (drop k whole) (le_of_eq (length-drop k whole)) in
    let is = ap₂ (λ (s t : List ℕ). s ++ (peer ++ t)) (take_at key (drop k old) k (l ∙ sym e)) rest ∙ ap (λ (t : List ℕ). key ++ t) (append-nil peer) in
    (ap (take (fixed_of c).key) is ∙ take_at key peer (fixed_of c).key l, ap (drop (fixed_of c).key) is ∙ drop_at key peer (fixed_of c).key l)

pub named : {n : ℕ} (c : Scheme) → n ≡ scheme_number c → scheme_of_lem n ≡ Some c
named c e = ap scheme_of_lem e ∙ by_number c

-- ---- from Finish on

module _ (c : Scheme) (x : Finish) {n : Option Scheme} (e : n ≡ Some c) {k : ℕ} (l : k ≡ (fixed_of c).key)
    (key digest : List ℕ) where
  pub finish-refused : {r : Refusal} → finish_seen (finish_told (Err r)) key digest ≡ finish_result n x (finish_rooms_of k 32) → FromFinish c x (Err r) key
  unfolding finish_seen finish_shown
  finish-refused {r} t =
      let g = sym (rw (e, l) at t) in
      let o = same-verdict (tests_from_finish c x) (Err r) (ap (λ (s : FinishSeen). s.number) g) (ap (λ (s : FinishSeen). s.place) g) in
      record { ended = sym (outcome-refused o (finish_slack (Some c) x)); peered = unkeyed (finish_key (Some c) x) key o }

  pub finish-done : (m : FinishCounts) → finish_seen (finish_told (Ok m)) key digest ≡ finish_result n x (finish_rooms_of k 32) → FromFinish c x (Ok m.slack) key
  unfolding finish_seen finish_shown
  finish-done m t =
      let g = rw (e, l) at t in
      let o : tests_from_finish c x ≡ pass = number-zero _ (ap (λ (s : FinishSeen). s.number) g) in
      let used = rw o at (ap (λ (s : FinishSeen). s.slack) g) in
      record {
        ended = ap Ok used ∙ sym (outcome-slack o _);
        peered = λ _. filled (finish_key (Some c) x) (fixed_of c).key o (finish.key-length c x) (ap (λ (s : FinishSeen). s.key) g);
      }

-- ---- from Reply on

module _ (c : Scheme) (x : Reply) (s : List ℤ) {n : Option Scheme} (e : n ≡ Some c) {j k : ℕ} (l : (j ≡ (fixed_of c).reply) × (k ≡ (fixed_of c).key))
    (message key digest : List ℕ) where
  pub reply-refused : {r : Refusal} (keys : List ℕ) → reply_seen (reply_told (Err r)) message key digest ≡ reply_result n x (reply_rooms_of j k 32)
      → BothKeys c (tests_from_reply c x s) x s (Err r) keys
  unfolding reply_seen outputs
  reply-refused {r} keys t =
      let g = sym (rw (e, l.0, l.1) at t) in
      let o = failed (tests_from_finish c (finish (reply_message (Some c) x) s)) refl
      (same-verdict _ (Err r) (ap (λ (s : ReplySeen). s.number) g) (ap (λ (s : ReplySeen). s.place) g)) in
      record { ended = sym (outcome-refused o (finish_slack (Some c) (finish (reply_message (Some c) x) s))); owned = unkeyed _ _ o; peered = unkeyed _ _ o }

  pub reply-sent : (w : ReplyCounts) → reply_seen (reply_told (Ok w)) message key digest ≡ reply_result n x (reply_rooms_of j k 32) → message ≡ reply_message (Some c) x
  unfolding reply_seen outputs
  reply-sent w t =
      let g = rw (e, l.0, l.1) at t in
      let o = number-zero _ (ap (λ (s : ReplySeen). s.number) g) in
      filled (reply_message (Some c) x) (fixed_of c).reply o (reply.message-length c x) (ap (λ (s : ReplySeen). s.message) g)

  pub reply-told : (w : ReplyCounts) {r : Result Peak Refusal} {peer : List ℕ} {m i : ℕ} → m ≡ (fixed_of c).reply → i ≡ (fixed_of c).key → (rest old : List ℕ)
      → reply_seen (reply_told (Ok w)) message key digest ≡ reply_result n x (reply_rooms_of j k 32) → FromFinish c (finish (take m (message ++ rest)) s) r peer
      → BothKeys c (tests_from_reply c x s) x s r (put_mid i (length (key ++ drop i old) - i) (key ++ drop i old) peer)
  unfolding reply_seen outputs
  reply-told w {peer = peer} {m} m-is i-is rest old t p =
      let g = rw (e, l.0, l.1) at t in
      let o = number-zero _ (ap (λ (s : ReplySeen). s.number) g) in
      let sent = reply-sent w t in
      let y = filled (reply_key (Some c) x) (fixed_of c).key o (reply.key-length c x) (ap (λ (s : ReplySeen). s.key) g) in
      let q = rw (front-is m sent (reply.message-length c x ∙ sym m-is) rest) at p in
      let z = went_on (tests_from_finish c (finish (reply_message (Some c) x) s)) refl o in
      let halves = two-keys c old peer i-is (ap length y ∙ reply.key-length c x) in
      record { ended = rw z q.ended; owned = λ _. halves.0 ∙ y; peered = λ f. halves.1 ∙ q.peered (sym z ∙ f) }

-- ---- from Offer on

module _ (c : Scheme) (x : Bench) {n : Option Scheme} (e : n ≡ Some c) {j : ℕ} (l : j ≡ (fixed_of c).opening) (opening : List ℕ) where
  pub offer-refused : {r : Refusal} (keys : List ℕ) → seen (told (Err r)) opening ≡ offer_result n (offering x) j
      → BothKeys c (tests_from_offer c x) (replying c x) x.s (Err r) keys
  unfolding seen shown
  offer-refused {r} keys t =
      let g = sym (rw (e, l) at t) in
      let o = failed (tests_from_reply c (replying c x) x.s) refl (same-verdict _ (Err r) (ap (λ (s : Seen ℕ). s.number) g) (ap (λ (s : Seen ℕ). s.place) g)) in
      record { ended = sym (outcome-refused o (finish_slack (Some c) (finishing c x))); owned = unkeyed _ _ o; peered = unkeyed _ _ o }

  pub offer-sent : (w : ℕ) → seen (told (Ok w)) opening ≡ offer_result n (offering x) j
      → (opening ≡ offer_message (Some c) (offering x)) × (length (offer_message (Some c) (offering x)) ≡ (fixed_of c).opening)
  unfolding seen shown offer_tests offer_in_lem offer_lengths_lem
  offer-sent w t =
      let g = rw (e, l) at t in
      let o = number-zero (offer_tests (Some c) (offering x) (fixed_of c).opening) (ap (λ (s : Seen ℕ). s.number) g) in
      let long = opening-long c (offering x) (offer-opens c (offering x) _ (both _ _ o).0).0.seed-long in
      (filled (offer_message (Some c) (offering x)) (fixed_of c).opening o long (ap (λ (s : Seen ℕ). s.out) g), long)

  pub offer-told : (w : ℕ) {r : Result Peak Refusal} {keys : List ℕ} {m : ℕ} → m ≡ (fixed_of c).opening → (rest : List ℕ) → seen (told (Ok w)) opening ≡ offer_result n (offering x) j
      → let y = reply_to x (take m (opening ++ rest)) in BothKeys c (tests_from_reply c y x.s) y x.s r keys
      → BothKeys c (tests_from_offer c x) (replying c x) x.s r keys
  unfolding seen shown offer_tests offer_in_lem offer_lengths_lem
  offer-told w {m = m} m-is rest t p =
      let g = rw (e, l) at t in
      let o = number-zero (offer_tests (Some c) (offering x) (fixed_of c).opening) (ap (λ (s : Seen ℕ). s.number) g) in
      let sent = offer-sent w t in
      let q = rw (front-is m sent.0 (sent.1 ∙ sym m-is) rest) at p in
      rw (went_on (tests_from_reply c (replying c x) x.s) refl o) q

-- ---- the promise

-- Finish refuses nothing there
same_tests : (c : Scheme) (x : Bench) → tests_from_offer c x ≡ bench_tests (Some c) x
unfolding bench_tests
same_tests c x = without-last _ _ _ (λ o r. finish-passes c x (sendable-by c x _ _ _ o r) _ (le_refl _, le_refl _))

answered : (c : Option Scheme) (x : Bench) (d : ℕ) {p : Peak} → bench_tests c x ≡ pass → d ≡ bench_differs c x → p ≡ bench_slack c x
    → bench_told (Ok (comparison d p)) ≡ bench_result c x
unfolding bench_shown
answered c x zero e f g = rw (e, ← f, ← g)
answered c x (suc i) e f g = rw (e, ← f, ← g)

module _ (c : Scheme) (x : Bench) {o : Result Peak Refusal} {keys : List ℕ} (p : BothKeys c (tests_from_offer c x) (replying c x) x.s o keys) where
  pub bench-refused : {r : Refusal} → o ≡ Err r → bench_told (Err r) ≡ bench_result (Some c) x
  unfolding bench_shown
  bench-refused {r} h =
      let e : bench_tests (Some c) x ≡ Err r = sym (same_tests c x) ∙ failed-by (tests_from_offer c x) (finish_slack (Some c) (finishing c x)) p.ended h in
      rw e

  -- both keys stand in their places
  module _ {s : Peak} (h : o ≡ Ok s) where
    ran : (tests_from_offer c x ≡ pass) × (s ≡ finish_slack (Some c) (finishing c x))
    ran = passed-by (tests_from_offer c x) (finish_slack (Some c) (finishing c x)) p.ended h

    pub bench-told : {r : Compared} {k : ℕ} → k ≡ (fixed_of c).key → r ≡ comparison (differing (take k keys) (drop k keys)) s → bench_told (Ok r) ≡ bench_result (Some c) x
    unfolding keys_differ bench_slack
    bench-told {k = k} h g =
        let e = sym (same_tests c x) ∙ ran.0 in
        let d = ap (λ (n : ℕ). differing (take n keys) (drop n keys)) h ∙ ap₂ differing (p.owned ran.0) (p.peered ran.0) ∙ differs-is c x e in
        ap (λ (t : Compared). bench_told (Ok t)) g ∙ answered (Some c) x (differing (take k keys) (drop k keys)) e d ran.1

-- in BCNS, where nothing is compared
pub bcns-answered : (x : Bench) (o : Result Peak Refusal) {keys : List ℕ} → BothKeys Bcns (tests_from_offer Bcns x) (replying Bcns x) x.s o keys
    → bcns_told o ≡ bench_result (Some Bcns) x
unfolding bench_differs bench_slack
bcns-answered x (Err r) p = bench-refused Bcns x p refl
bcns-answered x (Ok s) p = answered (Some Bcns) x 0 (sym (same_tests Bcns x) ∙ (ran Bcns x p refl).0) refl (ran Bcns x p refl).1

pub bench-unknown : {n : Option Scheme} (x : Bench) → n ≡ None → bench_told (Err NoScheme) ≡ bench_result n x
unfolding bench_tests bench_shown
bench-unknown x e = rw e
