-- Offer.
--   Ranges, offer-opens   what passed tests of what is lent say: the inputs are in range, and there is room for the opening
--   ahead-opens      and what they say without that of the public numbers
--   offer-failed, offer-last-decides   its verdict by the test that decides
--   opening-long     an opening is as long as the scheme says
--   offer-unknown    its tests where the number names no scheme
use Rattle.std.proofs.Common.{Err, Some, None, Option}
use Rattle.lists.proofs.Kit.{sym, ap, ◌∙◌, ℕ, arith, length}
use Rattle.std.proofs.Common.{◌≡◌, ◌≤◌}
use Rattle.schemes.specs.{Schemes.fixed_of, declared.Scheme.Scheme}
use Rattle.schemes.proofs.Sound.{sound}
use Rattle.refusals.specs.Refusals.{◌then◌, publics_in_lem, not_blank_lem, secrets_in_lem}
use Rattle.refusals.specs.Refusals.{pass}
use Rattle.refusals.specs.{Refusals.Verdict, declared.Refusal.Refusal, declared.Refusal.TheVariants.NoScheme}
use Rattle.refusals.proofs.Laws.{both, all_pass, length-passed, room-passed, publics-passed, secrets-passed, then-assoc, failed, before-failed, before-passed}
use Rattle.values.specs.Fit.{Counted, Small}
use Rattle.values.proofs.Ranges.{offered-counted}
use Rattle.wire.proofs.Travel.{opening-length, numbers-long}
use Rattle.offer.specs.Inside.{offer_lengths_lem, offer_sizes, offer_in_lem, offer_ahead, Opens}
use Rattle.offer.specs.Offer.{Offer, offered_part, offer_tests, offer_message}

-- the inputs of which all tests have passed
pub record Ranges (c : Scheme) (x : Offer) : Type 0 where
  pub public : Counted (fixed_of c).public (fixed_of c).q x.a
  pub secret : Small (fixed_of c).secret (fixed_of c).largest x.s
  pub noise : Small (fixed_of c).noise (fixed_of c).largest x.e
  pub seed-long : length x.seed ≡ (fixed_of c).seed

module _ (c : Scheme) (x : Offer) where
  pub opening-long : length x.seed ≡ (fixed_of c).seed → length (offer_message (Some c) x) ≡ (fixed_of c).opening
  unfolding offer_message
  opening-long l = opening-length c x.seed _ l (numbers-long c (offered-counted c x.a x.s x.e))

  -- of lengths, room and secrets
  lengths-open : (n : ℕ) → offer_sizes c x n ≡ pass → secrets_in_lem (fixed_of c).largest x.s then secrets_in_lem (fixed_of c).largest x.e ≡ pass
      → Opens c x × ((fixed_of c).opening ≤ n)
  unfolding offer_lengths_lem
  lengths-open n t u =
      let small = both _ _ u in
      let roomy = both _ _ t in
      let seeds = both _ _ roomy.0 in
      let noises = both _ _ seeds.0 in
      let lengths = both _ _ noises.0 in (
        record {
          public-long = length-passed _ _ lengths.0;
          secret = record { long = length-passed _ _ lengths.1; within = secrets-passed _ x.s small.0 };
          noise = record { long = length-passed _ _ noises.1; within = secrets-passed _ x.e small.1 };
          seed-long = length-passed _ _ seeds.1;
        },
        room-passed _ _ roomy.1,
      )

  pub offer-opens : (n : ℕ) → offer_in_lem c x n ≡ pass → Ranges c x × ((fixed_of c).opening ≤ n)
  unfolding offer_in_lem
  offer-opens n t =
      let noise = both _ _ t in
      let secret = both _ _ noise.0 in
      let public = both _ _ secret.0 in
      let o = lengths-open n public.0 (all_pass secret.1 noise.1) in (
        record {
          public = record { long = o.0.public-long; below = publics-passed _ x.a (omega (arith, (sound c).some)) public.1 };
          secret = o.0.secret;
          noise = o.0.noise;
          seed-long = o.0.seed-long;
        },
        o.1,
      )

  -- ---- where the public numbers are tested last

  -- its tests as far as the product
  in_two : (n : ℕ)
      → offer_in_lem c x n
      ≡ offer_sizes c x n then publics_in_lem (fixed_of c).q x.a then (secrets_in_lem (fixed_of c).largest x.s then secrets_in_lem (fixed_of c).largest x.e)
  unfolding offer_in_lem
  in_two n = then-assoc _ _ _

  pub ahead-opens : (n : ℕ) → offer_ahead c x n ≡ pass → Opens c x × ((fixed_of c).opening ≤ n)
  unfolding offer_ahead
  ahead-opens n t = let p = before-passed _ _ _ t in lengths-open n p.0 p.1

  pub offer-failed : (n : ℕ) {r : Refusal} → Err r ≡ offer_ahead c x n → offer_tests (Some c) x n ≡ Err r
  unfolding offer_tests offer_in_lem offer_lengths_lem offer_ahead
  offer-failed n e = failed _ (sym (in_two n)) (before-failed _ _ _ (sym e))

  pub offer-last-decides : (n : ℕ) {v : Verdict} → offer_ahead c x n ≡ pass → v ≡ publics_in_lem (fixed_of c).q x.a then not_blank_lem (offered_part c x)
      → offer_tests (Some c) x n ≡ v
  unfolding offer_tests offer_in_lem offer_lengths_lem offer_ahead
  offer-last-decides n t e =
      ap (λ (u : Verdict). u then not_blank_lem (offered_part c x)) (in_two n ∙ (before-passed _ _ _ t).2) ∙ sym e

pub offer-unknown : {c : Option Scheme} (x : Offer) (n : ℕ) → c ≡ None → offer_tests c x n ≡ Err NoScheme
unfolding offer_tests
offer-unknown x n e = rw e
