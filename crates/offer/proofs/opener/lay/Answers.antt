-- `offer::opener::lay` meets its contract: the product with the test of the public numbers, then, where that has passed, its bytes.
use Rattle.std.proofs.Common.{◌≡◌}
use Rattle.lists.proofs.Kit.{refl, sym, ap, ◌∙◌, List, ℕ, ℤ, arith, length}
use Rattle.schemes.specs.{Schemes.fixed_of, declared.Scheme.Scheme}
use Rattle.schemes.proofs.Sound.{sound}
use Rattle.lists.specs.Ranges.{Below}
use Rattle.packing.specs.Packing.{packed}
use Rattle.refusals.specs.{Refusals.publics_in_lem, Refusals.not_blank_lem, Refusals.pass, Seen.if_passed}
use Rattle.refusals.proofs.{Ends.given_up, Steps.front-is, Laws.publics-passed, Laws.failed, Laws.went_on}
use Rattle.values.specs.Values.{offered}
use Rattle.values.proofs.Ranges.{offered-counted}
use Rattle.wire.specs.Wire.{opening}
use Rattle.offer.specs.Offer.{offer_message}
use Rattle.offer.proofs.opener.lay.Goals as goal

numbers-long : (s : Scheme) {n : ℕ} (a : List ℕ) (x e : List ℤ) → n ≡ (fixed_of s).secret → length (offered s a x e) ≡ n
numbers-long s a x e h = (offered-counted s a x e).long ∙ sym h

-- where the verdict on the public numbers passes
below : (s : Scheme) (a : List ℕ) → pass ≡ publics_in_lem (fixed_of s).q a → Below (fixed_of s).q a
below s a e = publics-passed _ a (omega (arith, (sound s).some)) (sym e)

pub lay_numbers-requires-clause-counted : goal.lay_numbers-requires-clause-counted
lay_numbers-requires-clause-counted c =
    let a = c.args in
    let b = below a.scheme a.a.now (c.in_ok-publics_at.ensures _ c.offer-at.ensures.value) in
    rw (front-is _ (c.offer-at.ensures.out_value b) (numbers-long a.scheme _ _ _ c.requires.n_value.0) _) (offered-counted a.scheme a.a.now a.s.now a.e.now)

pub returns-in_err-publics_at-clause-value : goal.returns-in_err-publics_at-clause-value
returns-in_err-publics_at-clause-value c =
    given_up _ c.from_residual.ensures ∙ sym (failed _ (c.in_err-publics_at.ensures _ c.offer-at.ensures.value) refl)

pub returns-clause-value : goal.returns-clause-value
returns-clause-value c =
    let a = c.args in
    let v = c.in_ok-publics_at.ensures _ c.offer-at.ensures.value in
    let b = below a.scheme a.a.now v in
    let u = front-is _ (c.offer-at.ensures.out_value b) (numbers-long a.scheme _ _ _ c.requires.n_value.0) _ in
    c.lay_numbers.ensures.value ∙ ap (λ (x : List ℕ). not_blank_lem (packed (fixed_of a.scheme).width x)) u ∙ sym (went_on _ v refl)

pub returns-clause-laid : goal.returns-clause-laid
unfolding offer_message
returns-clause-laid c =
    let a = c.args in
    let r = c.lay_numbers.result in
    let b = below a.scheme a.a.now (c.in_ok-publics_at.ensures _ c.offer-at.ensures.value) in
    let u = front-is _ (c.offer-at.ensures.out_value b) (numbers-long a.scheme _ _ _ c.requires.n_value.0) _ in
    c.lay_numbers.ensures.laid ∙ ap (λ (x : List ℕ). if_passed r (opening a.scheme a.seed.now (packed (fixed_of a.scheme).width x)) a.out.now) u
