-- What is about to be sent: the remainders of the sums.
--   sent-counted   they are as many as the secret, and below q
--   sent_is        they are what the code makes
--   sent-blank     they are tested for their bytes
use Rattle.lists.proofs.Kit.{◌∙◌, sym, ap, List, ℕ, mod-lt, length}
use Rattle.std.proofs.Common.{◌≡◌}
use Rattle.schemes.specs.{Schemes.family_of, Schemes.fixed_of, declared.Family.Family, declared.Fixed.Fixed, declared.Scheme.Scheme}
use Rattle.lists.proofs.Entries.{tab-length, below-tab}
use Rattle.matrix.specs.Words.{reduced}
use Rattle.refusals.specs.Refusals.{not_blank_lem}
use Rattle.values.specs.Fit.{Counted}
use Rattle.values.proofs.Numbers.{numbers-in}
use Rattle.wire.proofs.Travel.{numbers-blank}
use Rattle.rows_state.specs.State.{long, sums_of}
use Rattle.rows_state.proofs.Laying.{sums-long}
use Rattle.rows.specs.Offer.{sent_numbers, sent_part}

module _ (c : Scheme) (st : List ℕ) (frodo : family_of c ≡ Family.Frodo) (l : length st ≡ long (fixed_of c).n) where
  pub sent-counted : Counted (fixed_of c).secret (fixed_of c).q (sent_numbers c st)
  unfolding reduced
  sent-counted =
      let f = numbers-in c frodo in
      record {
        long = tab-length (length (sums_of (fixed_of c).n st)) _ ∙ sums-long (fixed_of c).n st l ∙ sym f.secret;
        below = below-tab _ (length (sums_of (fixed_of c).n st)) _ f.q-some (λ k p. mod-lt _ f.q-some);
      }

  -- as the code makes them, of the fixed numbers f
  pub sent_is : {f : Fixed} {x : List ℕ} → f ≡ fixed_of c → x ≡ reduced f.q (sums_of f.n st) → x ≡ sent_numbers c st
  sent_is e d = d ∙ ap (λ (g : Fixed). reduced g.q (sums_of g.n st)) e

  pub sent-blank : not_blank_lem (sent_numbers c st) ≡ not_blank_lem (sent_part c st)
  sent-blank = sym (numbers-blank c sent-counted)
