-- `reply::replier::with_opening` meets its contract: it lends room for the opening's numbers; a refused message ends the call, and otherwise the secrets' tests decide.
use Rattle.std.proofs.Common.{◌≡◌}
use Rattle.lists.proofs.Kit.{sym, ap, ◌∙◌, List, ℕ, length}
use Rattle.lists.proofs.Same.{zeros}
use Rattle.schemes.specs.{Schemes.fixed_of, declared.Fixed.Fixed, declared.Scheme.Scheme}
use Rattle.packing.proofs.Laws.{unpacked-length}
use Rattle.refusals.specs.{Refusals.◌then◌, Refusals.publics_in_lem, Seen.if_passed, Refusals.Verdict}
use Rattle.refusals.proofs.{Laws.failed, Laws.went_on, Laws.before-fail, Steps.front-is, Steps.put-kept}
use Rattle.wire.specs.Wire.{opened_in, numbers_in}
use Rattle.wire.proofs.Travel.{message-counted}
use Rattle.reply.specs.{Reply.reply, Reply.opened_of, Inside.reply_rest}
use Rattle.reply.proofs.{Replying.message-taken, Replying.key-taken}
use Rattle.reply.proofs.replier.with_opening.Goals as goal

numbers-long : (s : Scheme) {f : Fixed} (opening : List ℕ) → f ≡ fixed_of s → length (numbers_in s (opened_in s opening)) ≡ f.secret
unfolding numbers_in
numbers-long s opening h = unpacked-length _ _ _ ∙ sym (ap (λ (g : Fixed). g.secret) h)

pub with_secrets-requires-clause-counted : goal.with_secrets-requires-clause-counted
with_secrets-requires-clause-counted c =
    let s = c.args.scheme in
    let o = c.args.opening.now in
    let v = c.take_opening-v.ensures in
    message-counted s (opened_in s o) (front-is _ v.numbers_value (numbers-long s o c.fixed-f.ensures) _) v.value c.in-Ok.is

pub returns-in_default : goal.returns-in_default
unfolding reply_rest opened_of
returns-in_default c =
    let f = fixed_of c.args.scheme in
    let P = publics_in_lem f.q c.args.a.now in
    let e = c.in_default.is in
    let q = rw c.fixed-f.ensures at c.publics_before.ensures ∙ sym (before-fail P e) in record {
      value = q ∙ ap (λ (w : Verdict). P then w) (e ∙ sym (failed _ c.take_opening-v.ensures.value e));
      laid = c.zero_outputs.ensures.message_value ∙ sym (zeros f.reply 0 c.requires.replying.message-blank) ∙ put-kept P _ q e;
      laid_2 = c.zero_outputs.ensures.key_value ∙ sym (zeros f.key 0 c.requires.replying.key-blank) ∙ put-kept P _ q e;
    }

pub returns-clause-value : goal.returns-clause-value
unfolding reply_rest opened_of
returns-clause-value c =
    let a = c.args in
    c.with_secrets.ensures.value ∙ ap (λ (w : Verdict). publics_in_lem (fixed_of a.scheme).q a.a.now then w) (sym (went_on _ c.take_opening-v.ensures.value c.in-Ok.is))

pub returns-clause-laid : goal.returns-clause-laid
unfolding opened_of
returns-clause-laid c =
    let a = c.args in
    let v = c.with_secrets.result in
    let x = reply a.opening.now a.a.now a.s1.now a.e1.now a.e2.now a.coins.now in
    let b = front-is _ c.take_opening-v.ensures.numbers_value (numbers-long a.scheme a.opening.now c.fixed-f.ensures) _ in
    c.with_secrets.ensures.laid ∙ ap (λ (xs : List ℕ). if_passed v xs a.message.now) (message-taken a.scheme x b)

pub returns-clause-laid_2 : goal.returns-clause-laid_2
unfolding opened_of
returns-clause-laid_2 c =
    let a = c.args in
    let v = c.with_secrets.result in
    let x = reply a.opening.now a.a.now a.s1.now a.e1.now a.e2.now a.coins.now in
    let b = front-is _ c.take_opening-v.ensures.numbers_value (numbers-long a.scheme a.opening.now c.fixed-f.ensures) _ in
    c.with_secrets.ensures.laid_2 ∙ ap (λ (xs : List ℕ). if_passed v xs a.key.now) (key-taken a.scheme x b)
