-- Offer's begin and end: what passed tests say, and their promises by their verdict.
--   OfferSized, begin-sized      what passed tests of begin say
--   begin-unknown, begin-known   what is seen where the number names no scheme of Frodo's, and where it names one
--   seed-bytes                   the seed, as a state keeps it
--   message-long                 the opening is as long as the scheme says
--   end-unknown, end-failed, end-blank, end-done   what is seen of end besides the state, by the test that decides
--   end-begun, end-fits          what passed sizes of end say
--   end_kept, end-cleared        and with the state
use Rattle.std.proofs.Common.{Ok, Err, Some, None, Option, ◌≡◌, ◌++◌, ◌≤◌}
use Rattle.lists.proofs.Kit.{refl, ◌∙◌, sym, ap, true, List, ℕ, arith, length, get_or, take, drop, replicate, length-take}
use Rattle.schemes.specs.{Schemes.family_of, Schemes.fixed_of, declared.Family.Family, declared.Scheme.Scheme, declared.Fixed.Fixed}
use Rattle.lists.specs.Ranges.{Below}
use Rattle.lists.proofs.Same.{zeros-long}
use Rattle.refusals.specs.Refusals.{◌then◌, in_turn, room_for_lem, not_blank_lem, pass}
use Rattle.refusals.specs.declared.Refusal.TheVariants.{NoScheme, OutOfTurn}
use Rattle.refusals.specs.Seen.{if_passed, Seen, told, seen, shown}
use Rattle.refusals.specs.{Refusals.Verdict, Seen.Answer, declared.Refusal.Refusal}
use Rattle.refusals.proofs.Laws.{some, both, length-passed, room-passed, turn-passed, failed, went_on}
use Rattle.refusals.proofs.{Seen.shown-failed, Seen.shown-passed, Seen.seen_done, Steps.kept, Steps.laid_on}
use Rattle.wire.proofs.Travel.{opening-length, numbers-long}
use Rattle.rows_state.specs.State.{long, named, saved_of, begun, complete, frodo_of_lem}
use Rattle.rows_state.specs.{Part.StateSeen, Part.state_seen, declared.Call.Call}
use Rattle.rows_state.proofs.{Turns.state-by, Laying.kept-long, Tests.passed, Tests.all-below, Tests.started, Tests.completes, Tests.frodos}
use Rattle.rows.specs.Offer.{OfferBegin, offer_begin_tests, offer_begin_result, sent_part, offer_end_tests, offer_end_message, offer_end_result}
use Rattle.rows.specs.Inside.{offer_end_sizes}
use Rattle.rows.proofs.{Ends.last-length, Ends.frodo-known, Ends.end_by, Running.kept-still, Sending.sent-counted}

-- ---- begin

pub record OfferSized (c : Scheme) (x : OfferBegin) (m : ℕ) : Type 0 where
  pub secret : length x.s ≡ (fixed_of c).secret
  pub noise : length x.e ≡ (fixed_of c).noise
  pub seed : length x.seed ≡ (fixed_of c).seed
  pub state : m ≡ long (fixed_of c).n

pub begin-sized : (c : Scheme) (x : OfferBegin) (m : ℕ) → offer_begin_tests (Some c) x m ≡ pass → OfferSized c x m
unfolding offer_begin_tests
begin-sized c x m t =
    let state = last-length _ _ _ (both _ _ (both _ _ t).0).0 in
    let seed = last-length _ _ _ state.0 in
    let noise = last-length _ _ _ seed.0 in
    record { secret = length-passed _ _ noise.0; noise = noise.1; seed = seed.1; state = state.1 }

module _ (k : ℕ) (x : OfferBegin) (m : ℕ) {r : Option Scheme} {st : List ℕ} (e : r ≡ frodo_of_lem k) (z : st ≡ replicate m 0) where
  pub begin-unknown : r ≡ None → state_seen (Err NoScheme) st ≡ offer_begin_result (frodo_of_lem k) x m
  unfolding offer_begin_tests
  begin-unknown u = state-by _ _ (rw (sym e ∙ u)) z

  pub begin-known : {c : Scheme} {t : StateSeen} → r ≡ Some c → t ≡ offer_begin_result (Some c) x (length st) → t ≡ offer_begin_result (frodo_of_lem k) x m
  begin-known u b = rw (sym e ∙ u, ← zeros-long m 0 z) b

-- ---- end

module _ (c : Scheme) (st : List ℕ) (b : begun Call.Offer (fixed_of c) st ≡ true) where
  pub state-long : length st ≡ long (fixed_of c).n
  state-long = (started Call.Offer (fixed_of c) st b).is-long

  pub seed-bytes : Below 256 (take 16 (saved_of st))
  seed-bytes = all-below 256 _ (omega arith) (passed _ _ (started Call.Offer (fixed_of c) st b).kept_in).0

  pub seed-long : length (take 16 (saved_of st)) ≡ 16
  seed-long = length-take 16 (saved_of st) ∙ omega (arith, kept-long (fixed_of c).n st state-long)

  pub message-long : family_of c ≡ Family.Frodo → length (offer_end_message (Some c) st) ≡ (fixed_of c).opening
  unfolding offer_end_message
  message-long e = opening-length c (take 16 (saved_of st)) _ (seed-long ∙ sym (frodos c e).seed) (numbers-long c (sent-counted c st e state-long))

-- the state names r, and the output is zeroed
module _ (st : List ℕ) (m : ℕ) {r : Option Scheme} {z : List ℕ} (e : r ≡ named st) (o : z ≡ replicate m 0) where
  pub end-unknown : r ≡ None → seen (told (Err OutOfTurn)) z ≡ (offer_end_result st m).answer
  unfolding offer_end_tests
  end-unknown u = let t : offer_end_tests (named st) st m ≡ Err OutOfTurn = rw (sym e ∙ u) in shown-failed _ _ _ t o

  module _ {c : Scheme} {v : Verdict} (u : r ≡ Some c) (d : v ≡ offer_end_sizes c st (length z)) where
    frodo : family_of c ≡ Family.Frodo
    frodo = frodo-known (get_or st 1 0) e u

    tests : offer_end_tests (named st) st m ≡ v then not_blank_lem (sent_part c st)
    unfolding offer_end_tests offer_end_sizes
    tests = rw (sym e ∙ u, d, zeros-long m 0 o)

    pub end-failed : {x : Refusal} → v ≡ Err x → seen (told (Err x)) z ≡ (offer_end_result st m).answer
    end-failed f = shown-failed _ _ _ (tests ∙ failed _ refl f) o

    module _ (p : v ≡ pass) where
      sizes : (in_turn (complete Call.Offer (fixed_of c) st) ≡ pass) × (room_for_lem (length z) (fixed_of c).opening ≡ pass)
      unfolding offer_end_sizes
      sizes = both _ _ (sym d ∙ p)

      pub end-begun : begun Call.Offer (fixed_of c) st ≡ true
      end-begun = (completes Call.Offer (fixed_of c) st (turn-passed _ sizes.0)).0

      pub end-fits : {f : Fixed} → f ≡ fixed_of c → f.opening ≤ length z
      end-fits h = omega (arith, ap (λ (g : Fixed). g.opening) h, room-passed _ _ sizes.1)

      module _ (k : ℕ) {w : Verdict} {part : List ℕ} (b : w ≡ not_blank_lem (sent_part c st))
          (l : part ≡ if_passed w (offer_end_message (Some c) st) (take k z)) where
        decides : offer_end_tests (named st) st m ≡ w
        decides = tests ∙ went_on _ refl p ∙ sym b

        pub end-blank : {x : Refusal} → w ≡ Err x → seen (told (Err x)) (part ++ drop k z) ≡ (offer_end_result st m).answer
        end-blank f = shown-failed _ _ _ (decides ∙ f) (kept _ k z f l ∙ o)

        pub end-done : w ≡ pass → k ≡ (fixed_of c).opening → seen (told (Ok k)) (part ++ drop k z) ≡ (offer_end_result st m).answer
        end-done f q =
            let is : offer_end_message (named st) st ≡ offer_end_message (Some c) st = ap (λ x. offer_end_message x st) (sym e ∙ u) in
            shown-passed _ _ _ (decides ∙ f) z (ap length is ∙ message-long c st end-begun frodo ∙ sym q) o
            (ap (λ (xs : List ℕ). xs ++ drop k z) (laid_on _ _ f l ∙ sym is))

-- the state, by what is seen besides it
module _ (st message : List ℕ) (m : ℕ) {a : Answer} (e : seen (told a) message ≡ (offer_end_result st m).answer) where
  pub end_kept : {r : Refusal} → a ≡ Err r → record { answer = seen (told (Err r)) message; state = st } ≡ offer_end_result st m
  unfolding seen shown
  end_kept {r} f =
      let v = offer_end_tests (named st) st m in
      let d = rw f at e in
      end_by {v = v} {r = v} st refl d (sym (kept-still v _ st (omega (arith, some r, ap (λ (s : Seen ℕ). s.number) d))))

  pub end-cleared : {n : ℕ} {after : List ℕ} → a ≡ Ok n → after ≡ replicate (length st) 0
      → record { answer = seen (told (Ok n)) message; state = after } ≡ offer_end_result st m
  end-cleared {n} f z = let d = rw f at e in end_by st (seen_done _ 0 m _ n message d) d z
