-- `rows::replier::lay` meets its contract: the numbers, then, where they are not blank, message and key; with room for what lies between.
use Rattle.lists.proofs.Kit.{sym, ap, ◌∙◌, List, [], ℕ, arith, length}
use Rattle.std.proofs.Common.{◌≡◌, ◌≤◌}
use Rattle.schemes.specs.{Schemes.fixed_of, declared.Fixed.Fixed}
use Rattle.schemes.proofs.Sound.{sound}
use Rattle.lists.proofs.Parts.{buffer-long, front_long}
use Rattle.packing.specs.Packing.{packed}
use Rattle.refusals.specs.{Refusals.not_blank_lem, Seen.if_passed}
use Rattle.refusals.proofs.Steps.{front-is, front_fits}
use Rattle.values.specs.Fit.{Counted}
use Rattle.values.proofs.Numbers.{numbers-in}
use Rattle.wire.specs.Steps.{message_by}
use Rattle.rows_state.specs.State.{long, saved_of}
use Rattle.rows_state.proofs.Tests.{frodos}
use Rattle.rows.specs.{Offer.sent_numbers, Reply.reply_end_message, Reply.reply_end_key}
use Rattle.rows.proofs.{Sending.sent-counted, Sending.sent_is, Replying.state-long, Replying.kept-counted}
use Rattle.rows.proofs.replier.lay.Goals as goal
use Rattle.rows.proofs.replier.lay.Goals.{After-fixed-f}

module _ (x : After-fixed-f) where
  abbrev lent : List ℕ
  lent = x.args.state.now

  lent-long : length lent ≡ long (fixed_of x.args.scheme).n
  lent-long = state-long x.args.scheme lent x.requires.scheme_value.0 x.requires.scheme_value.1

  counted : Counted (fixed_of x.args.scheme).secret (fixed_of x.args.scheme).q (sent_numbers x.args.scheme lent)
  counted = sent-counted x.args.scheme lent x.requires.scheme_value.0 lent-long

  many : x.fixed-f.result.secret ≡ (fixed_of x.args.scheme).secret
  many = ap (λ (f : Fixed). f.secret) x.fixed-f.ensures

  few : x.fixed-f.result.secret ≤ 6912
  few = omega (arith, many, (sound x.args.scheme).secrets)

pub slice_bounds-u-end : goal.slice_bounds-u-end
slice_bounds-u-end c = few (goal.at.slice_bounds-u-end c).After-fixed-f

pub slice_bounds-reduce-end : goal.slice_bounds-reduce-end
slice_bounds-reduce-end c = sym (buffer-long _ 6912 (few (goal.at.slice_bounds-reduce-end c).After-fixed-f))

pub reduce-requires : goal.reduce-requires
reduce-requires c =
    let h = numbers-in c.args.scheme c.requires.scheme_value.0 in
    let l = buffer-long _ 6912 (sound c.args.scheme).secrets ∙ h.secret in
    rw c.fixed-f.ensures (h.q-some, h.q_room, h.words, h.few, lent-long (goal.at.reduce-requires c).After-fixed-f, l)

pub slice_bounds-u-end-2 : goal.slice_bounds-u-end-2
slice_bounds-u-end-2 c =
    front_fits _ (sent_is c.args.scheme c.args.state.now c.requires.scheme_value.0 (lent-long (goal.at.slice_bounds-u-end-2 c).After-fixed-f) c.fixed-f.ensures c.reduce.ensures) ((counted (goal.at.slice_bounds-u-end-2 c).After-fixed-f).long ∙ sym (many (goal.at.slice_bounds-u-end-2 c).After-fixed-f)) _

pub slice_bounds-lay_values-end : goal.slice_bounds-lay_values-end
slice_bounds-lay_values-end c =
    sym
    (front_long _ _
    (front_fits _ (sent_is c.args.scheme c.args.state.now c.requires.scheme_value.0 (lent-long (goal.at.slice_bounds-lay_values-end c).After-fixed-f) c.fixed-f.ensures c.reduce.ensures) ((counted (goal.at.slice_bounds-lay_values-end c).After-fixed-f).long ∙ sym (many (goal.at.slice_bounds-lay_values-end c).After-fixed-f)) _))

pub slice_bounds-lay_values-end-2 : goal.slice_bounds-lay_values-end-2
slice_bounds-lay_values-end-2 c = omega (arith, lent-long (goal.at.slice_bounds-lay_values-end c).After-fixed-f)

pub lay_values-requires : goal.lay_values-requires
lay_values-requires c =
    let d = c.args.scheme in
    let h = numbers-in d c.requires.scheme_value.0 in record { counted = (rw (front-is _ (sent_is d c.args.state.now c.requires.scheme_value.0 (lent-long (goal.at.lay_values-requires c).After-fixed-f) c.fixed-f.ensures c.reduce.ensures) ((counted (goal.at.lay_values-requires c).After-fixed-f).long ∙ sym (many (goal.at.lay_values-requires c).After-fixed-f)) _) (counted (goal.at.lay_values-requires c).After-fixed-f), kept-counted d c.args.state.now c.requires.scheme_value.0 c.requires.scheme_value.1); coins_len = (sym (frodos d c.requires.scheme_value.0).coins, record { tosses-long = sym h.groups; hints-long = sym h.mixed; entries-long = sym h.groups }); message_len = c.requires.message_len }

pub returns : goal.returns
unfolding reply_end_message reply_end_key
returns c =
    let d = c.args.scheme in
    let u = front-is _ (sent_is d c.args.state.now c.requires.scheme_value.0 (lent-long (goal.at.returns c).After-fixed-f) c.fixed-f.ensures c.reduce.ensures) ((counted (goal.at.returns c).After-fixed-f).long ∙ sym (many (goal.at.returns c).After-fixed-f)) _ in
    let q = c.lay_values.ensures in
    let v = c.lay_values.result in record { value = q.value ∙ ap (λ (y : List ℕ). not_blank_lem (packed (fixed_of d).width y)) u; laid = q.laid ∙ ap (λ (y : List ℕ). if_passed v (message_by d y (saved_of c.args.state.now) []) c.args.message.now) u; laid_2 = q.laid_2 }
