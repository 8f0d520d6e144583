-- `rows::opener::lay` meets its contract: the seed and the numbers, then, where these are not blank, the bytes; with room for what lies between.
use Rattle.lists.proofs.Kit.{sym, ap, ap₂, ◌∙◌, List, ℕ, arith, length, drop}
use Rattle.std.proofs.Common.{◌≡◌, ◌≤◌}
use Rattle.schemes.specs.{Schemes.fixed_of, declared.Fixed.Fixed}
use Rattle.schemes.proofs.Sound.{sound}
use Rattle.lists.proofs.Parts.{buffer-long, front_long}
use Rattle.packing.specs.Packing.{packed}
use Rattle.refusals.specs.{Refusals.not_blank_lem, Seen.if_passed}
use Rattle.refusals.proofs.Steps.{front-is, front_fits}
use Rattle.values.specs.Fit.{Counted}
use Rattle.values.proofs.Numbers.{numbers-in}
use Rattle.wire.specs.Wire.{opening}
use Rattle.rows_state.specs.State.{long}
use Rattle.rows_state.proofs.{Tests.frodos, Laying.take_less}
use Rattle.rows.specs.Offer.{sent_numbers, offer_end_message}
use Rattle.rows.proofs.{Sending.sent-counted, Sending.sent_is, Opening.state-long, Opening.seed-bytes, Opening.seed-long}
use Rattle.rows.proofs.opener.lay.Goals as goal
use Rattle.rows.proofs.opener.lay.Goals.{After-fixed-f}

module _ (x : After-fixed-f) where
  abbrev lent : List ℕ
  lent = x.args.state.now

  lent-long : length lent ≡ long (fixed_of x.args.scheme).n
  lent-long = state-long x.args.scheme lent x.requires.1

  counted : Counted (fixed_of x.args.scheme).secret (fixed_of x.args.scheme).q (sent_numbers x.args.scheme lent)
  counted = sent-counted x.args.scheme lent x.requires.0 lent-long

  many : x.fixed-f.result.secret ≡ (fixed_of x.args.scheme).secret
  many = ap (λ (f : Fixed). f.secret) x.fixed-f.ensures

  few : x.fixed-f.result.secret ≤ 6912
  few = omega (arith, many, (sound x.args.scheme).secrets)

pub slice_bounds-gather-end : goal.slice_bounds-gather-end
slice_bounds-gather-end c = omega (arith, lent-long (goal.at.slice_bounds-gather-end c).After-fixed-f)

pub gather-requires : goal.gather-requires
gather-requires c =
    let e = take_less 16 48 (drop 3 c.args.state.now) in
    (rw e at (seed-long c.args.scheme c.args.state.now c.requires.1), rw e at (seed-bytes c.args.scheme c.args.state.now c.requires.1))

pub slice_bounds-b-end : goal.slice_bounds-b-end
slice_bounds-b-end c = few (goal.at.slice_bounds-b-end c).After-fixed-f

pub slice_bounds-reduce-end : goal.slice_bounds-reduce-end
slice_bounds-reduce-end c = sym (buffer-long _ 6912 (few (goal.at.slice_bounds-reduce-end c).After-fixed-f))

pub reduce-requires : goal.reduce-requires
reduce-requires c =
    let h = numbers-in c.args.scheme c.requires.0 in
    let l = buffer-long _ 6912 (sound c.args.scheme).secrets ∙ h.secret in
    rw c.fixed-f.ensures (h.q-some, h.q_room, h.words, h.few, lent-long (goal.at.reduce-requires c).After-fixed-f, l)

pub slice_bounds-b-end-2 : goal.slice_bounds-b-end-2
slice_bounds-b-end-2 c =
    front_fits _ (sent_is c.args.scheme c.args.state.now c.requires.0 (lent-long (goal.at.slice_bounds-b-end-2 c).After-fixed-f) c.fixed-f.ensures c.reduce.ensures) ((counted (goal.at.slice_bounds-b-end-2 c).After-fixed-f).long ∙ sym (many (goal.at.slice_bounds-b-end-2 c).After-fixed-f)) _

pub slice_bounds-lay_numbers-end : goal.slice_bounds-lay_numbers-end
slice_bounds-lay_numbers-end c =
    sym
    (front_long _ _
    (front_fits _ (sent_is c.args.scheme c.args.state.now c.requires.0 (lent-long (goal.at.slice_bounds-lay_numbers-end c).After-fixed-f) c.fixed-f.ensures c.reduce.ensures) ((counted (goal.at.slice_bounds-lay_numbers-end c).After-fixed-f).long ∙ sym (many (goal.at.slice_bounds-lay_numbers-end c).After-fixed-f)) _))

pub lay_numbers-requires : goal.lay_numbers-requires
lay_numbers-requires c =
    let d = c.args.scheme in
    let e = take_less 16 48 (drop 3 c.args.state.now) in
    record { counted = rw (front-is _ (sent_is d c.args.state.now c.requires.0 (lent-long (goal.at.lay_numbers-requires c).After-fixed-f) c.fixed-f.ensures c.reduce.ensures) ((counted (goal.at.lay_numbers-requires c).After-fixed-f).long ∙ sym (many (goal.at.lay_numbers-requires c).After-fixed-f)) _) (counted (goal.at.lay_numbers-requires c).After-fixed-f); seed_len = (ap length (c.gather.ensures ∙ sym e) ∙ seed-long d c.args.state.now c.requires.1 ∙ sym (frodos d c.requires.0).seed, c.requires.2) }

pub returns : goal.returns
unfolding offer_end_message
returns c =
    let d = c.args.scheme in
    let f = fixed_of d in
    let u = front-is _ (sent_is d c.args.state.now c.requires.0 (lent-long (goal.at.returns c).After-fixed-f) c.fixed-f.ensures c.reduce.ensures) ((counted (goal.at.returns c).After-fixed-f).long ∙ sym (many (goal.at.returns c).After-fixed-f)) _ in
    let q = c.lay_numbers.ensures in
    let v = c.lay_numbers.result in record {
      value = q.value ∙ ap (λ (y : List ℕ). not_blank_lem (packed f.width y)) u;
      laid = q.laid
          ∙ ap₂ (λ (y z : List ℕ). if_passed v (opening d y (packed f.width z)) c.args.out.now)
          (c.gather.ensures ∙ sym (take_less 16 48 (drop 3 c.args.state.now))) u;
    }
