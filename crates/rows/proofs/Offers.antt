-- Offer by rows is Offer on the joined matrix: what is stated of it in specs/Shown.
--   same-offer, early-offer, offer-taken   what is shown
use Rattle.std.proofs.Common.{Ok, Err, Some, ◌≡◌, ◌≢◌, ◌++◌}
use Rattle.lists.proofs.Kit.{refl, ◌∙◌, sym, ap, ap₂, true, List, ℕ, arith, length, take, replicate, take_at, drop_at}
use Rattle.schemes.specs.{Schemes.family_of, Schemes.fixed_of, declared.Family.Family, declared.Scheme.Scheme}
use Rattle.lists.specs.Ranges.{Below}
use Rattle.lists.proofs.Entries.{below-zeros}
use Rattle.packing.specs.Packing.{packed}
use Rattle.refusals.specs.Refusals.{number_in, ◌then◌, not_blank_lem, secrets_in_lem, pass}
use Rattle.refusals.specs.{Seen.shown, Seen.written, Refusals.Verdict, declared.Refusal.TheVariants.OutOfTurn}
use Rattle.refusals.proofs.Laws.{number-zero, both, failed, length-passes, turn-passed, below-passes, within-passes, all_pass}
use Rattle.values.specs.Values.{offered}
use Rattle.wire.specs.Wire.{opening}
use Rattle.offer.specs.{Offer.Offer, Offer.offer, Offer.offer_tests, Offer.offered_part, Offer.offer_message, Inside.offer_lengths_lem, Inside.offer_in_lem}
use Rattle.offer.proofs.Offering.{Ranges, offer-opens}
use Rattle.rows_state.specs.{State.long, State.named, State.saved_of, State.all_below, State.saved_in, Part.state_shown, declared.Call.Call}
use Rattle.rows_state.proofs.{Tests.goes, Tests.below_all, Tests.frodos, Laying.seed-kept-long}
use Rattle.rows.specs.Offer.{OfferBegin, offer_begin_tests, offer_state, offer_begin_result, sent_part, offer_end_tests, offer_end_message}
use Rattle.rows.specs.Runs.{Parts, joined, WithinRows, OfferAccepted}
use Rattle.rows.specs.Shown.{SameOffer, EarlyOffer, OfferTaken}
use Rattle.rows.proofs.Fresh.{Starts, Left, left, fill, in-turn, has_all, too-early}
use Rattle.rows.proofs.{Opening.OfferSized, Opening.begin-sized, Ends.not-refused, Ends.by-frodo, Shown.took-parts}

-- turn, room and blank part; and of the whole call lengths, room, numbers, secrets and blank part
chain : (i r b l p s e b' : Verdict) → i ≡ pass → l ≡ pass → p ≡ pass → s ≡ pass → e ≡ pass → b ≡ b'
    → i then r then b ≡ l then r then p then s then e then b'
unfolding ◌then◌
chain i (Ok _) b l p s e b' h1 h2 h3 h4 h5 d = rw (h1, h2, h3, h4, h5) d
chain i (Err r) b l p s e b' h1 h2 h3 h4 h5 d = rw (h1, h2)

-- ---- after a good begin

module _ (c : Scheme) (x : OfferBegin) (m : ℕ) (frodo : family_of c ≡ Family.Frodo) (bytes : Below 256 x.seed)
    (good : (offer_begin_result (Some c) x m).number ≡ 0) where
  abbrev first : List ℕ
  first = (offer_begin_result (Some c) x m).state

  abbrev kept : List ℕ
  kept = x.seed ++ replicate 48 0

  passes : offer_begin_tests (Some c) x m ≡ pass
  passes = (not-refused _ _ good).0

  sized : OfferSized c x m
  sized = begin-sized c x m passes

  secret-in : secrets_in_lem (fixed_of c).largest x.s ≡ pass
  unfolding offer_begin_tests
  secret-in = (both _ _ (both _ _ passes).0).1

  noise-in : secrets_in_lem (fixed_of c).largest x.e ≡ pass
  unfolding offer_begin_tests
  noise-in = (both _ _ passes).1

  seed-is : length x.seed ≡ 16
  seed-is = sized.seed ∙ (frodos c frodo).seed

  kept_in : saved_in Call.Offer (fixed_of c).q kept ≡ true
  kept_in =
      sym
      (goes (ap (all_below 256) (take_at x.seed (replicate 48 0) 16 seed-is) ∙ below_all 256 x.seed bytes)
      (sym (ap (all_below 1) (drop_at x.seed (replicate 48 0) 16 seed-is) ∙ below_all 1 (replicate 48 0) (below-zeros 48 (omega arith)))))

  begins : Starts Call.Offer c kept x.s x.e first
  unfolding offer_state
  begins =
      record {
        frodo = frodo;
        kept-long = seed-kept-long x.seed seed-is;
        kept_in = kept_in;
        secret-long = sized.secret;
        noise-long = sized.noise;
        is = (not-refused (offer_state (Some c) x) (replicate m 0) good).1;
      }

  -- ---- and any parts

  module _ (a last : List ℕ) (parts : Parts Call.Offer first a last) where
    walk : Left Call.Offer c kept x.s x.e a last
    walk = left begins parts

    last-seed : take 16 (saved_of last) ≡ x.seed
    last-seed = ap (take 16) walk.kept-is ∙ take_at x.seed (replicate 48 0) 16 seed-is

    early : (n : ℕ) → length a ≢ (fixed_of c).public → offer_end_tests (named last) last n ≡ Err OutOfTurn
    unfolding offer_end_tests
    early n h = ap (λ d. offer_end_tests d last n) walk.is-named ∙ failed _ refl (failed _ refl (too-early frodo walk h))

    -- ---- all of A has come

    module _ (all : length a ≡ (fixed_of c).public) where
      abbrev whole : Offer
      whole = offer a x.s x.e x.seed

      sent : sent_part c last ≡ offered_part c whole
      unfolding offered
      sent = ap (packed (fixed_of c).width) (walk.sums all ∙ sym (by-frodo _ _ _ frodo))

      lengths : offer_lengths_lem c whole ≡ pass
      unfolding offer_lengths_lem
      lengths =
          all_pass (all_pass (all_pass (length-passes all) (length-passes sized.secret)) (length-passes sized.noise)) (length-passes sized.seed)

      same_tests : (n : ℕ) → offer_end_tests (named last) last n ≡ offer_tests (Some c) whole n
      unfolding offer_end_tests offer_tests offer_lengths_lem
      same_tests n =
          ap (λ d. offer_end_tests d last n) walk.is-named
          ∙ chain _ _ _ (offer_lengths_lem c whole) _ _ _ _ (in-turn frodo walk all) lengths (below-passes walk.below) secret-in noise-in (ap not_blank_lem sent)

      same-message : offer_end_message (named last) last ≡ offer_message (Some c) whole
      unfolding offer_end_message offer_message
      same-message = ap (λ d. offer_end_message d last) walk.is-named ∙ ap₂ (opening c) last-seed sent

-- ---- what is shown

pub same-offer : SameOffer
same-offer c x a n t frodo bytes (m, r) all =
    r.ends
    ∙ ap₂ (λ (v : Verdict) (xs : List ℕ). shown v xs 0 n) (same_tests c x m frodo bytes r.begins a r.last r.parts all n)
    (same-message c x m frodo bytes r.begins a r.last r.parts all)

pub early-offer : EarlyOffer
unfolding shown written
early-offer c x a n t frodo bytes (m, r) some =
    r.ends
    ∙ ap (λ (v : Verdict). shown v (offer_end_message (named r.last) r.last) 0 n)
    (early c x m frodo bytes r.begins a r.last r.parts n some)

-- ---- nothing is refused

module _ (c : Scheme) (x : OfferBegin) (ps : List (List ℕ)) (n : ℕ) (frodo : family_of c ≡ Family.Frodo) (bytes : Below 256 x.seed) where
  abbrev joint : Offer
  joint = offer (joined ps) x.s x.e x.seed

  abbrev size : ℕ
  size = long (fixed_of c).n

  begin-passes : Ranges c joint → offer_begin_tests (Some c) x size ≡ pass
  unfolding offer_begin_tests
  begin-passes r =
      all_pass
      (all_pass
      (all_pass (all_pass (all_pass (length-passes r.secret.long) (length-passes r.noise.long)) (length-passes r.seed-long)) (length-passes refl))
      (within-passes r.secret.within))
      (within-passes r.noise.within)

  ranges : offer_tests (Some c) joint n ≡ pass → Ranges c joint
  unfolding offer_tests offer_in_lem offer_lengths_lem
  ranges t = (offer-opens c joint n (both _ _ t).0).0

  by_parts : offer_tests (Some c) joint n ≡ pass → WithinRows (fixed_of c).n 0 ps → OfferAccepted c x ps n
  unfolding state_shown shown
  by_parts t w =
      let g : (offer_begin_result (Some c) x size).number ≡ 0 = ap number_in (begin-passes (ranges t)) in
      let all = (ranges t).public.long in
      let o = fill (begins c x size frodo bytes g) ps w (ranges t).public.below all in
      record {
        begins = g;
        last = o.0;
        parts = o.1;
        ends = sym (ap number_in (same_tests c x size frodo bytes g (joined ps) o.0 (took-parts o.1) all n ∙ t));
      }

  as-whole : OfferAccepted c x ps n → offer_tests (Some c) joint n ≡ pass
  unfolding offer_end_tests shown
  as-whole a =
      let p = took-parts a.parts in
      let z : offer_end_tests (named a.last) a.last n ≡ pass = number-zero _ a.ends in
      let l = walk c x size frodo bytes a.begins (joined ps) a.last p in
      let o = both _ _ (sym (ap (λ d. offer_end_tests d a.last n) l.is-named) ∙ z) in
      let all = has_all frodo l (turn-passed _ (both _ _ o.0).0) in
      sym (same_tests c x size frodo bytes a.begins (joined ps) a.last p all n) ∙ z

pub offer-taken : OfferTaken
offer-taken c x ps n frodo bytes w = (λ t. by_parts c x ps n frodo bytes t w, as-whole c x ps n frodo bytes)
