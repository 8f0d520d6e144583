-- `finish::initiator::with_reply` meets its contract: it lends room for the reply's numbers; a refused message ends the call, and otherwise the secret's test decides.
use Rattle.lists.proofs.Kit.{sym, ap₂, ◌∙◌, List, ℕ, arith, length}
use Rattle.std.proofs.Common.{◌≡◌, ◌≤◌, Some}
use Rattle.schemes.specs.{Schemes.fixed_of}
use Rattle.schemes.proofs.Sound.{sound}
use Rattle.lists.proofs.{Same.zeros, Parts.buffer-long, Parts.front_long}
use Rattle.packing.proofs.Laws.{unpacked-length}
use Rattle.refusals.specs.{Refusals.secrets_in_lem, Seen.if_passed, Steps.outcome, Refusals.Verdict}
use Rattle.refusals.proofs.{Laws.failed, Laws.went_on, Steps.front-is, Steps.front_fits, Steps.outcome-refused}
use Rattle.wire.specs.Wire.{replied_in, numbers_in}
use Rattle.wire.proofs.Travel.{message-counted}
use Rattle.finish.specs.{Finish.finish, Finish.replied_of, Finish.finish_slack, Inside.finish_rest}
use Rattle.finish.proofs.{Finishing.key-taken, Finishing.slack-taken}
use Rattle.finish.proofs.initiator.with_reply.Goals as goal
use Rattle.finish.proofs.initiator.with_reply.Goals.{Start}

few : (b : Start) → b.args.n ≤ 6912
few b = omega (arith, b.requires.1, (sound b.args.scheme).secrets)

pub slice_bounds-u-end : goal.slice_bounds-u-end
slice_bounds-u-end c = few (goal.at.slice_bounds-u-end c).Start

pub slice_bounds-take_reply-end : goal.slice_bounds-take_reply-end
slice_bounds-take_reply-end c = sym (buffer-long c.args.n 6912 (few (goal.at.slice_bounds-take_reply-end c).Start))

pub take_reply-v-requires : goal.take_reply-v-requires
take_reply-v-requires c = (c.requires.0.reply-long, buffer-long c.args.n 6912 (few (goal.at.take_reply-v-requires c).Start) ∙ c.requires.1)

pub returns-in_default : goal.returns-in_default
unfolding finish_rest replied_of
returns-in_default c =
    let a = c.args in
    let blank = zeros (fixed_of a.scheme).key 0 c.requires.0.key-blank in
    let f = c.in_default.is in
    let e = failed (secrets_in_lem (fixed_of a.scheme).largest a.s.now) c.take_reply-v.ensures.value f in record {
      value = rw f at c.map.ensures.cases ∙ sym (outcome-refused e (finish_slack (Some a.scheme) (finish a.reply.now a.s.now)));
      laid = rw e (c.fill.ensures.after (λ y z. z) ∙ sym blank);
    }

numbers-long : (b : Start) → length (numbers_in b.args.scheme (replied_in b.args.scheme b.args.reply.now)) ≡ b.args.n
unfolding numbers_in
numbers-long b = unpacked-length _ _ _ ∙ sym b.requires.1

pub slice_bounds-u-end-2 : goal.slice_bounds-u-end-2
slice_bounds-u-end-2 c =
    front_fits _ c.take_reply-v.ensures.numbers_value (numbers-long (goal.at.slice_bounds-u-end-2 c).Start) _

pub slice_bounds-with_secret-end : goal.slice_bounds-with_secret-end
slice_bounds-with_secret-end c =
    sym (front_long _ _ (front_fits _ c.take_reply-v.ensures.numbers_value (numbers-long (goal.at.slice_bounds-with_secret-end c).Start) _))

pub with_secret-requires : goal.with_secret-requires
with_secret-requires c =
    let v = c.take_reply-v.ensures in
    (c.requires.0, message-counted c.args.scheme (replied_in c.args.scheme c.args.reply.now) (front-is _ v.numbers_value (numbers-long (goal.at.with_secret-requires c).Start) _) v.value c.in-Ok.is)

pub returns : goal.returns
unfolding finish_rest replied_of
returns c =
    let x = finish c.args.reply.now c.args.s.now in
    let u = front-is _ c.take_reply-v.ensures.numbers_value (numbers-long (goal.at.returns c).Start) _ in
    let rest = sym (went_on _ c.take_reply-v.ensures.value c.in-Ok.is) in record { value = c.with_secret.ensures.value ∙ ap₂ outcome rest (slack-taken c.args.scheme x u); laid = c.with_secret.ensures.laid ∙ ap₂ (λ (v : Verdict) (xs : List ℕ). if_passed v xs c.args.key.now) rest (key-taken c.args.scheme x u) }
