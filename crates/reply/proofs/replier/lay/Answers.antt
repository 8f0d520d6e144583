-- `reply::replier::lay` meets its contract: the products with the test of the public numbers, then, where that has passed, message and key.
use Rattle.std.proofs.Common.{◌≡◌}
use Rattle.lists.proofs.Kit.{refl, sym, ap, ap₂, ◌∙◌, List, ℕ, ℤ, arith, length}
use Rattle.schemes.specs.{Schemes.fixed_of, declared.Fixed.Fixed, declared.Scheme.Scheme}
use Rattle.schemes.proofs.Sound.{sound}
use Rattle.lists.specs.Ranges.{Below}
use Rattle.packing.specs.Packing.{packed}
use Rattle.refusals.specs.{Refusals.publics_in_lem, Refusals.not_blank_lem, Refusals.pass, Seen.if_passed}
use Rattle.refusals.proofs.{Ends.given_up, Laws.publics-passed, Laws.failed, Laws.went_on, Steps.front-is}
use Rattle.values.specs.Values.{mixed_value}
use Rattle.values.proofs.Ranges.{replied-counted, mixed-counted}
use Rattle.wire.specs.Steps.{message_by, key_by}
use Rattle.reply.specs.Inside.{message_from, key_from}
use Rattle.reply.proofs.replier.lay.Goals as goal

-- where the verdict on the public numbers passes
below : (s : Scheme) (a : List ℕ) → pass ≡ publics_in_lem (fixed_of s).q a → Below (fixed_of s).q a
below s a e = publics-passed _ a (omega (arith, (sound s).some)) (sym e)

value-long : (s : Scheme) {f : Fixed} (b : List ℕ) (x e : List ℤ) → f ≡ fixed_of s → length (mixed_value s b x e) ≡ f.mixed
value-long s b x e h = (mixed-counted s b x e).long ∙ sym (ap (λ (g : Fixed). g.mixed) h)

pub returns-in_err-publics_at-clause-value : goal.returns-in_err-publics_at-clause-value
returns-in_err-publics_at-clause-value c =
    given_up _ c.from_residual.ensures ∙ sym (failed _ (c.in_err-publics_at.ensures _ c.reply-at.ensures.value) refl)

pub lay_values-requires-clause-counted : goal.lay_values-requires-clause-counted
lay_values-requires-clause-counted c =
    let a = c.args in
    let l = below a.scheme a.a.now (c.in_ok-publics_at.ensures _ c.reply-at.ensures.value) in (
      rw (c.reply-at.ensures.b_value l) (replied-counted a.scheme a.a.now a.s1.now a.e1.now),
      rw (front-is _ (c.reply-at.ensures.v_value l) (value-long a.scheme _ _ _ c.fixed-f.ensures) _) (mixed-counted a.scheme a.b.now a.s1.now a.e2.now),
    )

pub returns-clause-value : goal.returns-clause-value
returns-clause-value c =
    let a = c.args in
    let v = c.in_ok-publics_at.ensures _ c.reply-at.ensures.value in
    let u = c.reply-at.ensures.b_value (below a.scheme a.a.now v) in
    c.lay_values.ensures.value ∙ ap (λ (x : List ℕ). not_blank_lem (packed (fixed_of a.scheme).width x)) u ∙ sym (went_on _ v refl)

pub returns-clause-laid : goal.returns-clause-laid
unfolding message_from
returns-clause-laid c =
    let a = c.args in
    let o = c.lay_values.result in
    let l = below a.scheme a.a.now (c.in_ok-publics_at.ensures _ c.reply-at.ensures.value) in
    let v = front-is _ (c.reply-at.ensures.v_value l) (value-long a.scheme _ _ _ c.fixed-f.ensures) _ in
    c.lay_values.ensures.laid ∙ ap₂ (λ (x y : List ℕ). if_passed o (message_by a.scheme x y a.coins.now) a.message.now) (c.reply-at.ensures.b_value l) v

pub returns-clause-laid_2 : goal.returns-clause-laid_2
unfolding key_from
returns-clause-laid_2 c =
    let a = c.args in
    let o = c.lay_values.result in
    let l = below a.scheme a.a.now (c.in_ok-publics_at.ensures _ c.reply-at.ensures.value) in
    let v = front-is _ (c.reply-at.ensures.v_value l) (value-long a.scheme _ _ _ c.fixed-f.ensures) _ in
    c.lay_values.ensures.laid_2 ∙ ap (λ (y : List ℕ). if_passed o (key_by a.scheme y a.coins.now) a.key.now) v
